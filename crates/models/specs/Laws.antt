-- Every edit keeps a working diagram sound, where it can be made. Assumes nothing.
use Rattle.std.specs.Prelude.{◌≡◌, ℕ, ◌<◌, Bool, true, ℤ}
use Rattle.models.specs.Models.{ModelLeg, Model, Sound}
use Rattle.models.specs.Edits as edit

pub record EditsKeepSound : Type 0 where
  pub blank : Sound edit.blank
  pub placed : {m : Model} (s p : ℕ) → p < 4 → Sound m → edit.can_place s m ≡ true → Sound (edit.placed s p m)
  pub removed : {m : Model} (s : ℕ) → Sound m → edit.can_remove s m ≡ true → Sound (edit.removed s m)
  pub gained : {m : Model} (r : ℕ → Bool) (p : ℕ) → Sound m → Sound (edit.gained r p m)
  pub toggled : {m : Model} (a b : ℕ) → Sound m → edit.can_join a b m ≡ true → Sound (edit.toggled a b m)
  pub complemented_around : {m : Model} (u : ℕ) → Sound m → Sound (edit.complemented_around u m)
  pub crossed : {m : Model} (u v : ℕ) → Sound m → Sound (edit.crossed u v m)
  pub scaled : {m : Model} (k : ℤ) (t : ℕ) → Sound m → edit.can_scale k t m ≡ true → Sound (edit.scaled k t m)
  pub zeroed : {m : Model} → Sound m → Sound (edit.zeroed m)
  pub fused : {m : Model} (a b : ℕ) → Sound m → edit.can_fuse a b m ≡ true → Sound (edit.fused a b m)
  pub attached : {m : Model} (l : ℕ) (o : ModelLeg) → Sound m → edit.can_attach l o m ≡ true → Sound (edit.attached l o m)
  pub detached : {m : Model} (l : ℕ) → Sound m → Sound (edit.detached l m)
