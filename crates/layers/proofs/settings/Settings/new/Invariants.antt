use Rattle.std.proofs.Common.{◌≡◌, ℕ, ◌<◌, ◌≤◌, map, get_or, take, drop}
use Rattle.layers.specs.Settings.{settings_limit, first_invalid, padded, setting_of}
use Rattle.layers.proofs.settings.Settings.new.Given as goal

-- the table has the settings so far, the rest of the row decides, and no byte so far was invalid
abbrev pub invariant-loop-place : goal.invariant-loop-place
invariant-loop-place l =
    (l.table ≡ padded (map setting_of (take l.place l.row)))
    × (first_invalid l.place (drop l.place l.row) ≡ first_invalid 0 l.row)
    × ((k : ℕ) → k < l.place → (k < settings_limit) × (get_or l.row k 0 ≤ 2))
