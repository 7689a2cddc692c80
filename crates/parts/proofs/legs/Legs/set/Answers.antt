use Rattle.std.proofs.Common.{◌≡◌, cond, is_some, sym, refl, ap, ◌∙◌, arith, eq-eqb, ne_eqb}
use Rattle.graphs.specs.Counts.{bit}
use Rattle.graphs.proofs.Sets.{bit_most}
use Rattle.models.proofs.Counts.{legs_most}
use Rattle.parts.specs.Tables.{maybe_leg, leg_in}
use Rattle.parts.proofs.Tables.{recounted, counted_most, same_some, bit_of_flag}
use Rattle.parts.proofs.legs.Legs.set.Goals as goal

pub overflow_add-count : goal.overflow_add-count
overflow_add-count c =
    let was = c.args.self.now.counted in
    let most = legs_most 64 0 (leg_in c.args.self.now.table) in
    let one = bit_most c.is_some-after.result in
    let after = c.from.ensures ∙ bit_of_flag c.is_some-after.result in
    omega arith

-- one that was open was counted
pub overflow_sub-count : goal.overflow_sub-count
overflow_sub-count c =
    let j = c.args.leg.number in
    let old = leg_in c.args.self.now.table in
    let low = c.args.leg.bound in
    let was = c.args.self.now.counted in
    let some = counted_most 64 0 j old (omega arith) (omega arith) in
    let before : c.from-2.result ≡ bit (is_some (old j)) = c.from-2.ensures ∙ bit_of_flag c.is_some-before.result ∙ ap bit (c.is_some-before.ensures ∙ sym (same_some c.get.result) ∙ ap is_some c.get.ensures) in
    omega arith

pub invariant_of-self : goal.invariant_of-self
invariant_of-self c =
    let j = c.args.leg.number in
    let old = leg_in c.args.self.now.table in
    let new = leg_in c.replaced-table.result in
    let low = c.args.leg.bound in
    let was = c.args.self.now.counted in
    let some = counted_most 64 0 j old (omega arith) (omega arith) in
    let all = recounted 64 0 j old new (omega arith) (omega arith) (λ k ne. c.replaced-table.ensures k ∙ ap (λ b. cond b (maybe_leg c.args.now_open) (old k)) (ne_eqb k j ne)) in
    let here : bit (is_some (new j)) ≡ bit (is_some c.args.now_open) = ap (λ o. bit (is_some o)) (c.replaced-table.ensures j ∙ ap (λ b. cond b (maybe_leg c.args.now_open) (old j)) (eq-eqb j j refl)) ∙ ap bit (same_some c.args.now_open) in
    let before : c.from-2.result ≡ bit (is_some (old j)) = c.from-2.ensures ∙ bit_of_flag c.is_some-before.result ∙ ap bit (c.is_some-before.ensures ∙ sym (same_some c.get.result) ∙ ap is_some c.get.ensures) in
    let after : c.from.result ≡ bit (is_some c.args.now_open) = c.from.ensures ∙ bit_of_flag c.is_some-after.result ∙ ap bit c.is_some-after.ensures in
    record { counted = omega arith }
