-- What calls that may refuse have answered. Assumes nothing.
use Rattle.std.proofs.Common.{◌≡◌, ℕ, Bor, Bool, true, false, cond, List, length, Some, None, Ok, Err, Option, Result, sym, refl, arith, MatchResult}
use Rattle.std.specs.Prelude.{slice_get, ok_or}
use Rattle.std.specs.Bool.{then_some}
use Rattle.std.specs.Option.{option_copied}
use Rattle.std.specs.Slice.{IsItemAt}
use Rattle.std.proofs.lemmas.Option.{slice_get_read, slice_get_past}
use Rattle.refusals.specs.declared.LoadRefusal.{LoadRefusal}
use Rattle.refusals.specs.declared.LoadRefusal.TheVariants.{UnknownSpider}
use Rattle.models.specs.Models.{Model}
use Rattle.loadings.specs.Loadings.{given}
use Rattle.loader.specs.declared.given.Given.{Given}
use Rattle.loader.specs.Givens.{loading_of}
use Rattle.loader.specs.States.{Known}
use Rattle.loader.proofs.Givens.{known, unknown}

-- what is got at a place of a list
pub got : {X : Type 0} (xs : List X) (i : ℕ) (r : Option (Bor X)) → IsItemAt xs i r → option_copied r ≡ slice_get xs i
got xs i (Some x) h = sym (slice_get_read xs (length xs) i x.now refl h.3.0 h.1)
got xs i None h = sym (slice_get_past xs i h.3)

pub found : (m : Model) (gs : List Given) (l k n : ℕ) (o : Option Given) → slice_get gs k ≡ o → MatchResult (ok_or o (UnknownSpider n)) (λ g. Known (loading_of m gs l) k g) (λ e. (given (loading_of m gs l) k ≡ false) × (e ≡ UnknownSpider n))
found m gs l k n (Some g) e = known m gs l k g e
found m gs l k n None e = (unknown m gs l k e, refl)

-- a test that went on, or refused
pub went_on : (b : Bool) (e : LoadRefusal) (u : Unit {0}) → cond {A = Result (Unit {0}) LoadRefusal} b (Ok tt) (Err e) ≡ Ok u → b ≡ true
went_on true e u h = refl
went_on false e u h = absurd (let z : ◌≡◌ {A = ℕ} 0 1 = cc in omega arith)

pub was_refused : (b : Bool) (e f : LoadRefusal) → cond {A = Result (Unit {0}) LoadRefusal} b (Ok tt) (Err e) ≡ Err f → (b ≡ false) × (f ≡ e)
was_refused true e f h = absurd (let z : ◌≡◌ {A = ℕ} 0 1 = cc in omega arith)
was_refused false e f h = (refl, cc)

pub tested : (b : Bool) (e : LoadRefusal) → ok_or (then_some b (tt {0})) e ≡ cond {A = Result (Unit {0}) LoadRefusal} b (Ok tt) (Err e)
tested true e = refl
tested false e = refl
