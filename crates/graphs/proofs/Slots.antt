-- Summing over the bit of a slot that goes, or of two. Assumes nothing.
use Rattle.std.proofs.Common.{◌≡◌, ℕ, ◌+◌, ◌*◌, ◌%◌, ◌<◌, Bool, true, false, cond, sym, refl, ap, ◌∙◌, ap₂, add_assoc, arith, eq-eqb, ne_eqb}
use Rattle.amounts.specs.Amounts.{Amounts, Lawful}
use Rattle.graphs.specs.Counts.{bit}
use Rattle.graphs.specs.Graphs.{Graph, Bits, SoundGraph, put, without, turns, quarters, graph_sum}
use Rattle.graphs.specs.Rules.{Blind}
use Rattle.graphs.proofs.Bitwise.{beside, beside_put, turns-put}
use Rattle.graphs.proofs.Sums.{Within, sum_same, sum-stands, sum_scale, sum_split}
use Rattle.amounts.proofs.Turns.{add-mul}
use Rattle.graphs.proofs.Turns.{quarters-add, quarters-same}

-- what is set is not u, where u is not set
pub other_than : (x : Bits) (u : ℕ) → x u ≡ false → (s : ℕ) → x s ≡ true → s ≡ u → ⊥
other_than x u off s on e = let z : ◌≡◌ {A = ℕ} 0 1 = ap bit (sym off ∙ ap x (sym e) ∙ on) in omega arith

-- bits that set only slots that stand do not set one that does not
off_where : (n u : ℕ) (stands : ℕ → Bool) (x : Bits) → stands u ≡ false → Within n stands x → x u ≡ false
off_where n u stands x none h = go (x u) refl
  where
    go : (b : Bool) → x u ≡ b → b ≡ false
    go true e = let z : ◌≡◌ {A = ℕ} 0 1 = ap bit (sym none ∙ h.on u e) in absurd (omega arith)
    go false e = refl

gone_here : (stands : ℕ → Bool) (u : ℕ) → without stands u u ≡ false
gone_here stands u = ap (λ b. cond b false (stands u)) (eq-eqb u u refl)

module _ (A : Amounts) (laws : Lawful A) where
  -- two terms that have t in common
  taken_out : (t s c e g : A.Amount) → A.add A.one s ≡ A.mul c e → A.add (A.mul t g) (A.mul (A.mul t s) g) ≡ A.mul c (A.mul (A.mul t e) g)
  taken_out t s c e g h =
      sym (add-mul A laws t (A.mul t s) g)
      ∙ ap (λ y. A.mul y g) (ap (λ y. A.add y (A.mul t s)) (sym (laws.mul_one t)) ∙ sym (laws.mul_add t A.one s) ∙ ap (A.mul t) h ∙ sym (laws.mul_assoc t c e) ∙ ap (λ y. A.mul y e) (laws.mul_comm t c) ∙ laws.mul_assoc c t e)
      ∙ laws.mul_assoc c (A.mul t e) g

  -- a slot goes, and its two terms are c times what is left, e quarter turns further
  module _ (n u : ℕ) (G H : Graph) (g : Bits → A.Amount) (good : SoundGraph n G) (blind : Blind A g u) (low : u < n) (stood : G.stands u ≡ true) (gone : (s : ℕ) → H.stands s ≡ without G.stands u s) (c : A.Amount) (e : Bits → ℕ) where
    pub one_out : ((x : Bits) → x u ≡ false → turns n H x % 4 ≡ (turns n G x + e x) % 4) → ((x : Bits) → x u ≡ false → A.add A.one (quarters A (G.phase u + 2 * beside n G u x)) ≡ A.mul c (quarters A (e x))) → graph_sum A n G g ≡ A.mul c (graph_sum A n H g)
    one_out left paid =
        sum_split A laws n G.stands u term low stood
        ∙ sum_same A n (without G.stands u) (λ x. A.add (term x) (term (put x u))) (λ x. A.mul c (after x)) pointwise
        ∙ sum_scale A laws n (without G.stands u) c after
        ∙ ap (A.mul c) (sum-stands A n (without G.stands u) H.stands after (λ k l. sym (gone k)))
      where
        term : Bits → A.Amount
        term x = A.mul (quarters A (turns n G x)) (g x)

        after : Bits → A.Amount
        after x = A.mul (quarters A (turns n H x)) (g x)

        pointwise : (x : Bits) → Within n (without G.stands u) x → A.add (term x) (term (put x u)) ≡ A.mul c (after x)
        pointwise x h =
            let off = off_where n u (without G.stands u) x (gone_here G.stands u) h in
            let t = turns n G x in
            let j = G.phase u + 2 * beside n G u x in
            let more = ap (quarters A) (turns-put n u G good x low off) ∙ quarters-add A laws t j in
            let fewer = quarters-same A laws (turns n H x) (t + e x) (left x off) ∙ quarters-add A laws t (e x) in
            ap (A.add (term x)) (ap₂ A.mul more (blind x))
            ∙ taken_out (quarters A t) (quarters A j) c (quarters A (e x)) (g x) (paid x off)
            ∙ ap (λ q. A.mul c (A.mul q (g x))) (sym fewer)

  -- four terms that have t in common
  four_out : (t a b d c e g : A.Amount) → A.add (A.add A.one a) (A.add b d) ≡ A.mul c e → A.add (A.add (A.mul t g) (A.mul (A.mul t a) g)) (A.add (A.mul (A.mul t b) g) (A.mul (A.mul t d) g)) ≡ A.mul c (A.mul (A.mul t e) g)
  four_out t a b d c e g h =
      ap₂ A.add (pair A.one a (laws.mul_one t)) (pair b d refl)
      ∙ sym (add-mul A laws (A.mul t (A.add A.one a)) (A.mul t (A.add b d)) g)
      ∙ ap (λ y. A.mul y g) (sym (laws.mul_add t (A.add A.one a) (A.add b d)) ∙ ap (A.mul t) h ∙ sym (laws.mul_assoc t c e) ∙ ap (λ y. A.mul y e) (laws.mul_comm t c) ∙ laws.mul_assoc c t e)
      ∙ laws.mul_assoc c (A.mul t e) g
    where
      pair : (y z : A.Amount) {t' : A.Amount} → A.mul t y ≡ t' → A.add (A.mul t' g) (A.mul (A.mul t z) g) ≡ A.mul (A.mul t (A.add y z)) g
      pair y z {t'} q = ap (λ r. A.add (A.mul r g) (A.mul (A.mul t z) g)) (sym q) ∙ sym (add-mul A laws (A.mul t y) (A.mul t z) g) ∙ ap (λ r. A.mul r g) (sym (laws.mul_add t y z))

  -- two joined slots go, and their four terms are c times what is left, e quarter turns further
  module _ (n u v : ℕ) (G H : Graph) (g : Bits → A.Amount) (good : SoundGraph n G) (blind-u : Blind A g u) (blind-v : Blind A g v) (u-low : u < n) (v_low : v < n) (apart : u ≡ v → ⊥) (joined : G.edge u v ≡ true) (u_stood : G.stands u ≡ true) (v_stood : G.stands v ≡ true) (gone : (s : ℕ) → H.stands s ≡ without (without G.stands u) v s) (c : A.Amount) (e : Bits → ℕ) where
    -- the quarter turns that u alone adds, and v alone, and u after v
    abbrev by_u : Bits → ℕ
    by_u x = G.phase u + 2 * beside n G u x

    abbrev by_v : Bits → ℕ
    by_v x = G.phase v + 2 * beside n G v x

    abbrev by_both : Bits → ℕ
    by_both x = by_v x + (G.phase u + 2 * (beside n G u x + 1))

    pub two_out : ((x : Bits) → x u ≡ false → x v ≡ false → turns n H x % 4 ≡ (turns n G x + e x) % 4) → ((x : Bits) → A.add (A.add A.one (quarters A (by_u x))) (A.add (quarters A (by_v x)) (quarters A (by_both x))) ≡ A.mul c (quarters A (e x))) → graph_sum A n G g ≡ A.mul c (graph_sum A n H g)
    two_out left paid =
        sum_split A laws n G.stands u term u-low u_stood
        ∙ sum_split A laws n fewer v (λ x. A.add (term x) (term (put x u))) v_low still
        ∙ sum_same A n (without fewer v) _ (λ x. A.mul c (after x)) pointwise
        ∙ sum_scale A laws n (without fewer v) c after
        ∙ ap (A.mul c) (sum-stands A n (without fewer v) H.stands after (λ k l. sym (gone k)))
      where
        fewer : ℕ → Bool
        fewer = without G.stands u

        term : Bits → A.Amount
        term x = A.mul (quarters A (turns n G x)) (g x)

        after : Bits → A.Amount
        after x = A.mul (quarters A (turns n H x)) (g x)

        still : fewer v ≡ true
        still = ap (λ b. cond b false (G.stands v)) (ne_eqb v u (λ q. apart (sym q))) ∙ v_stood

        pointwise : (x : Bits) → Within n (without fewer v) x → A.add (A.add (term x) (term (put x u))) (A.add (term (put x v)) (term (put (put x v) u))) ≡ A.mul c (after x)
        pointwise x h =
            let off_v = off_where n v (without fewer v) x (gone_here fewer v) h in
            let off_u = off_where n u (without fewer v) x (ap (λ b. cond b false (fewer u)) (ne_eqb u v apart) ∙ gone_here G.stands u) h in
            let t = turns n G x in
            let off_uv : put x v u ≡ false = ap (λ b. cond b true (x u)) (ne_eqb u v apart) ∙ off_u in
            let a = ap (quarters A) (turns-put n u G good x u-low off_u) ∙ quarters-add A laws t (by_u x) in
            let b = turns-put n v G good x v_low off_v in
            let d : turns n G (put (put x v) u) ≡ t + by_both x =
            turns-put n u G good (put x v) u-low off_uv ∙ ap₂ (λ y z. y + (G.phase u + 2 * z)) b (beside_put n u v G x v_low off_v joined) ∙ add_assoc t (by_v x) (G.phase u + 2 * (beside n G u x + 1)) in
            let rest = quarters-same A laws (turns n H x) (t + e x) (left x off_u off_v) ∙ quarters-add A laws t (e x) in
            ap₂ A.add
            (ap (A.add (term x)) (ap₂ A.mul a (blind-u x)))
            (ap₂ A.add (ap₂ A.mul (ap (quarters A) b ∙ quarters-add A laws t (by_v x)) (blind-v x)) (ap₂ A.mul (ap (quarters A) d ∙ quarters-add A laws t (by_both x)) (blind-u (put x v) ∙ blind-v x)))
            ∙ four_out (quarters A t) (quarters A (by_u x)) (quarters A (by_v x)) (quarters A (by_both x)) c (quarters A (e x)) (g x) (paid x)
            ∙ ap (λ q. A.mul c (A.mul q (g x))) (sym rest)
