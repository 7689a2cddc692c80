-- The scalar that a value holds. Assumes nothing.
use Rattle.models.specs.Models.{Scalar as Scale, nothing, root}
use Rattle.parts.specs.declared.scalar.Scalar.{Scalar}
use Rattle.parts.specs.declared.scalar.Scalar.TheVariants.{Zero, Root}

abbrev pub scale_of : Scalar → Scale
scale_of Zero = nothing
scale_of (Root k m) = root k m.parts
