-- What an edit leaves as it is: how many spiders stand, and which legs are open. Assumes nothing.
use Rattle.std.proofs.Common.{◌≡◌, ℕ, ◌<◌, Bool, ℤ, refl, ap}
use Rattle.graphs.proofs.Counting.{total-same}
use Rattle.graphs.specs.Counts.{bit}
use Rattle.models.specs.Models.{ModelLeg, Model, slots, leg_limit, open_legs, standing}
use Rattle.models.specs.Edits.{placed, removed, gained, toggled, complemented_around, crossed, scaled, zeroed, attached, detached}
use Rattle.models.proofs.Counts.{legs-same}

-- standing goes by the slots that stand, and the open legs by the legs
pub standing-same : (m k : Model) → ((s : ℕ) → s < slots → m.graph.stands s ≡ k.graph.stands s) → standing m ≡ standing k
standing-same m k e = total-same slots (λ s. bit (m.graph.stands s)) (λ s. bit (k.graph.stands s)) (λ s l. ap bit (e s l))

pub open_same : (m k : Model) → ((l : ℕ) → l < leg_limit → m.leg l ≡ k.leg l) → open_legs m ≡ open_legs k
open_same m k e = legs-same leg_limit 0 m.leg k.leg (λ l h low. e l low)

module _ (m : Model) where
  pub standing-gained : (r : ℕ → Bool) (p : ℕ) → standing (gained r p m) ≡ standing m
  unfolding gained
  standing-gained r p = refl

  pub standing-toggled : (a b : ℕ) → standing (toggled a b m) ≡ standing m
  unfolding toggled
  standing-toggled a b = refl

  pub standing-complemented_around : (u : ℕ) → standing (complemented_around u m) ≡ standing m
  unfolding complemented_around
  standing-complemented_around u = refl

  pub standing-crossed : (u v : ℕ) → standing (crossed u v m) ≡ standing m
  unfolding crossed
  standing-crossed u v = refl

  pub standing-scaled : (k : ℤ) (t : ℕ) → standing (scaled k t m) ≡ standing m
  unfolding scaled
  standing-scaled k t = refl

  pub standing-zeroed : standing (zeroed m) ≡ standing m
  unfolding zeroed
  standing-zeroed = refl

  pub standing-attached : (l : ℕ) (o : ModelLeg) → standing (attached l o m) ≡ standing m
  unfolding attached
  standing-attached l o = refl

  pub standing-detached : (l : ℕ) → standing (detached l m) ≡ standing m
  unfolding detached
  standing-detached l = refl

  pub open_placed : (s p : ℕ) → open_legs (placed s p m) ≡ open_legs m
  unfolding placed
  open_placed s p = refl

  pub open_removed : (s : ℕ) → open_legs (removed s m) ≡ open_legs m
  unfolding removed
  open_removed s = refl

  pub open_gained : (r : ℕ → Bool) (p : ℕ) → open_legs (gained r p m) ≡ open_legs m
  unfolding gained
  open_gained r p = refl

  pub open_toggled : (a b : ℕ) → open_legs (toggled a b m) ≡ open_legs m
  unfolding toggled
  open_toggled a b = refl

  pub open_complemented_around : (u : ℕ) → open_legs (complemented_around u m) ≡ open_legs m
  unfolding complemented_around
  open_complemented_around u = refl

  pub open_crossed : (u v : ℕ) → open_legs (crossed u v m) ≡ open_legs m
  unfolding crossed
  open_crossed u v = refl

  pub open_scaled : (k : ℤ) (t : ℕ) → open_legs (scaled k t m) ≡ open_legs m
  unfolding scaled
  open_scaled k t = refl

  pub open_zeroed : open_legs (zeroed m) ≡ open_legs m
  unfolding zeroed
  open_zeroed = refl
