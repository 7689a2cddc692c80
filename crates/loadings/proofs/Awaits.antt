-- The slots that stand together with those of the spiders yet to come, and what the items see of their bits. Assumes nothing.
use Rattle.std.proofs.Common.{◌≡◌, ℕ, suc, ◌+◌, ◌<◌, ◌≤◌, Bool, true, false, cond, ◌&&◌, ◌||◌, eqb, ltb, leb, sym, refl, ap, ◌∙◌, ap₂, ⊎_elim, arith, le-ltb, lt-ltb, ne_eqb, eqb-true, le-leb}
use mathlib.Core.Path.{fun_ext}
use borrow.Author.Tests.{lt-leb}
use Rattle.std.proofs.lemmas.Bool.Decides.{eqb_tells, leb_tells}
use Rattle.graphs.specs.Graphs.{Bits, put, without}
use Rattle.loadings.specs.Loadings.{placed_again}
use Rattle.loadings.proofs.Fusions.{copied}

-- the slots that stand, and those of the spiders from n to c, which are yet to come
abbrev pub awaited : (ℕ → Bool) → ℕ → ℕ → ℕ → Bool
awaited stands n c k = stands k || (leb n k && ltb k c)

pub awaited_stands : (stands : ℕ → Bool) (n c k : ℕ) → stands k ≡ true → awaited stands n c k ≡ true
awaited_stands stands n c k on = ap (λ e. e || (leb n k && ltb k c)) on

-- before n nothing is awaited, and from c on neither
pub awaited_before : (stands : ℕ → Bool) (n c k : ℕ) → k < n → awaited stands n c k ≡ stands k
awaited_before stands n c k h = ap (λ e. stands k || (e && ltb k c)) (lt-leb n k h) ∙ or_none (stands k)
  where
    or_none : (e : Bool) → e || false ≡ e
    or_none true = refl
    or_none false = refl

pub awaited_after : (stands : ℕ → Bool) (n c k : ℕ) → c ≤ k → awaited stands n c k ≡ stands k
awaited_after stands n c k h = ap (λ e. stands k || (leb n k && e)) (le-ltb k c h) ∙ neither (stands k) (leb n k)
  where
    neither : (e f : Bool) → e || (f && false) ≡ e
    neither true f = refl
    neither false true = refl
    neither false false = refl

-- once the last has come nothing is awaited
pub awaited_none : (stands : ℕ → Bool) (c k : ℕ) → awaited stands c c k ≡ stands k
awaited_none stands c k = ⊎_elim (λ h. awaited_after stands c c k h.1) (λ h. awaited_before stands c c k h.1) (leb_tells c k)

-- the next spider comes
pub awaited_next : (stands : ℕ → Bool) (n c k : ℕ) → n < c → awaited stands n c k ≡ awaited (put stands n) (n + 1) c k
awaited_next stands n c k h = ⊎_elim here other (eqb_tells k n)
  where
    or_all : (e : Bool) → e || true ≡ true
    or_all true = refl
    or_all false = refl

    here : (eqb k n ≡ true) × (k ≡ n) → stands k || (leb n k && ltb k c) ≡ cond (eqb k n) true (stands k) || (leb (n + 1) k && ltb k c)
    here e =
        let same = e.1 in
        ap₂ (λ a b. stands k || (a && b)) (le-leb n k (omega arith)) (lt-ltb k c (omega arith))
        ∙ or_all (stands k)
        ∙ sym (ap (λ a. cond a true (stands k) || (leb (n + 1) k && ltb k c)) e.0)

    later : leb n k ≡ leb (n + 1) k → eqb k n ≡ false → stands k || (leb n k && ltb k c) ≡ cond (eqb k n) true (stands k) || (leb (n + 1) k && ltb k c)
    later e f = ap (λ a. stands k || (a && ltb k c)) e ∙ sym (ap (λ a. cond a true (stands k) || (leb (n + 1) k && ltb k c)) f)

    other : (eqb k n ≡ false) × (k ≡ n → ⊥) → stands k || (leb n k && ltb k c) ≡ cond (eqb k n) true (stands k) || (leb (n + 1) k && ltb k c)
    other e =
        let ne = e.1 in
        ⊎_elim
        (λ g. let l = g.1 in later (g.0 ∙ sym (le-leb (n + 1) k (omega arith))) e.0)
        (λ g. let l = g.1 in later (g.0 ∙ sym (lt-leb (n + 1) k (omega arith))) e.0)
        (leb_tells n k)

-- a slot before n goes
pub awaited_without : (stands : ℕ → Bool) (n c b k : ℕ) → b < n → awaited (without stands b) n c k ≡ without (awaited stands n c) b k
awaited_without stands n c b k h = here (eqb k b) refl
  where
    here : (e : Bool) → eqb k b ≡ e → cond e false (stands k) || (leb n k && ltb k c) ≡ cond e false (stands k || (leb n k && ltb k c))
    here true e = let same = eqb-true k b e in ap (λ f. f && ltb k c) (lt-leb n k (omega arith))
    here false e = refl

-- a slot more stands
pub awaited_put : (stands : ℕ → Bool) (n c u k : ℕ) → awaited (put stands u) n c k ≡ put (awaited stands n c) u k
awaited_put stands n c u k = here (eqb k u)
  where
    here : (e : Bool) → cond e true (stands k) || (leb n k && ltb k c) ≡ cond e true (stands k || (leb n k && ltb k c))
    here true = refl
    here false = refl

-- what the items see: of the spiders below c, the bit of the slot in which each now is
abbrev pub seen : ℕ → (ℕ → ℕ) → Bits → Bits
seen c place y k = cond (ltb k c) (y (place k)) false

pub seen_below : (c : ℕ) (place : ℕ → ℕ) (y : Bits) (k : ℕ) → k < c → seen c place y k ≡ y (place k)
seen_below c place y k h = ap (λ e. cond e (y (place k)) false) (lt-ltb k c h)

-- in slot a is seen what was in slot b, once the bit of a is there too
pub seen_again : (c a b : ℕ) (place : ℕ → ℕ) (y : Bits) → seen c (placed_again a b place) y ≡ seen c place (copied a b y)
seen_again c a b place y = fun_ext (λ k. ap (λ v. cond (ltb k c) v false) (here k (eqb (place k) b)))
  where
    here : (k : ℕ) (e : Bool) → y (cond e a (place k)) ≡ cond e (y a) (y (place k))
    here k true = refl
    here k false = refl

-- a slot in which no spider below c is, is not seen
pub seen_blind : (c u : ℕ) (place : ℕ → ℕ) (y : Bits) → ((k : ℕ) → k < c → place k ≡ u → ⊥) → seen c place (put y u) ≡ seen c place y
seen_blind c u place y off = fun_ext (λ k. ⊎_elim (there k) (past k) (leb_tells (suc k) c))
  where
    there : (k : ℕ) → (ltb k c ≡ true) × (k < c) → seen c place (put y u) k ≡ seen c place y k
    there k h = ap (λ e. cond (ltb k c) (cond e true (y (place k))) false) (ne_eqb (place k) u (off k h.1))

    past : (k : ℕ) → (ltb k c ≡ false) × (c < suc k) → seen c place (put y u) k ≡ seen c place y k
    past k h = ap (λ e. cond e (put y u (place k)) false) h.0 ∙ sym (ap (λ e. cond e (y (place k)) false) h.0)

-- bits that set no slot from c on are seen as they are, where every spider is in the slot of its number
pub seen_all : (c : ℕ) (y : Bits) → ((k : ℕ) → y k ≡ true → k < c) → seen c (λ k. k) y ≡ y
seen_all c y low = fun_ext (λ k. here k (y k) refl)
  where
    here : (k : ℕ) (e : Bool) → y k ≡ e → cond (ltb k c) e false ≡ e
    here k true e = ap (λ f. cond f true false) (lt-ltb k c (low k e))
    here k false e = either (ltb k c)
      where
        either : (f : Bool) → cond f false false ≡ false
        either true = refl
        either false = refl
