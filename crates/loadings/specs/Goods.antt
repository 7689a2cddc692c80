-- What holds at every point of a loading. Assumes nothing.
use Rattle.std.specs.Prelude.{◌≡◌, ℕ, ◌+◌, ◌<◌, ◌≤◌, true, false, length, None}
use Rattle.models.specs.Models.{Sound, spider_limit, leg_limit}
use Rattle.loadings.specs.Loadings.{Loading, within}

-- the diagram is sound; there are spiders and legs within the limits; the slots of the spiders and legs that are
-- yet to come are empty, and their legs are not open; a given spider is in a slot of a given one, that stands,
-- and one that is yet to come in the slot of its number; and the power of √2 lies within the limit
pub record Good (s : Loading) : Type 0 where
  pub sound : Sound s.model
  pub few : length s.colours ≤ spider_limit
  pub few_legs : s.legs ≤ leg_limit
  pub untaken : (k : ℕ) → length s.colours ≤ k → k < spider_limit → s.model.graph.stands k ≡ false
  pub unheld : (l : ℕ) → s.legs ≤ l → s.model.graph.stands (spider_limit + l) ≡ false
  pub unopened : (l : ℕ) → s.legs ≤ l → s.model.leg l ≡ None
  pub below : (k : ℕ) → k < length s.colours → s.place k < length s.colours
  pub stood : (k : ℕ) → k < length s.colours → s.model.graph.stands (s.place k) ≡ true
  pub itself : (k : ℕ) → length s.colours ≤ k → s.place k ≡ k
  pub bounded : within s.model.scalar ≡ true
