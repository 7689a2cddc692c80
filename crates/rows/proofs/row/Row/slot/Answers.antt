use Rattle.std.proofs.Common.{◌≡◌, ℕ, ◌<◌, ◌≤◌, Bool, true, false, length, Some, None, Option, sym, ap, ◌∙◌, rules, tests, MatchOption}
use Rattle.std.specs.Bool.{then_some}
use Rattle.std.proofs.option.Match.{tell_Some, tell_None}
use Rattle.rows.specs.declared.row.Row.{Row}
use Rattle.rows.specs.declared.slot.Below.{Below}
use Rattle.rows.specs.Rows.{has}
use Rattle.rows.proofs.Words.{past_none}
use Rattle.rows.proofs.row.Row.slot.Goals as goal

-- a slot that is left only where it is in the row
left : (r : Row) (n : ℕ) (o q : Option (Below 320)) (R : Below 320 → Bool → Type 0) → ((x : Below 320) (b : Bool) → R x b → b ≡ has r x.number) → (320 ≤ n → has r n ≡ false) → MatchOption o (320 ≤ n) (λ s. (s.number ≡ n) × (n < 320)) → MatchOption o (q ≡ None) (λ x. (b : Bool) × R x b × (q ≡ then_some b x)) → MatchOption q (has r n ≡ false) (λ s. (s.number ≡ n) × (has r n ≡ true))
left r n None q R told past made kept = tell_None _ _ kept (past made)
left r n (Some x) q R told past made kept = go kept.0 kept.2 (told x kept.0 kept.1)
  where
    go : (b : Bool) → q ≡ then_some b x → b ≡ has r x.number → MatchOption q (has r n ≡ false) (λ s. (s.number ≡ n) × (has r n ≡ true))
    go true e h = tell_Some _ _ x e (made.0, ap (has r) (sym made.0) ∙ sym h)
    go false e h = tell_None _ _ e (ap (has r) (sym made.0) ∙ sym h)

pub returns : goal.returns
returns c =
    let few : length c.args.self.now.words ≤ 5 = search rules in
    left c.args.self.now c.args.number c.new.result c.filter.result _ (λ x b k. search (rules, tests)) (past_none c.args.self.now.words few c.args.number) c.new.ensures c.filter.ensures
