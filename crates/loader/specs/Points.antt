-- What holds at a point of a loading holds in one way. Assumes nothing.
use native.Mathlib.Bridge.{le_prop}
use Rattle.models.specs.Models.{Scalar, nothing, root, BelowFullTurn}

pub turn_once : (c : Scalar) → IsProp (BelowFullTurn c)
turn_once nothing = le_prop
turn_once (root k m) = le_prop
