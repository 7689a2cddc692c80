-- The line that says an answer, its end left out. Assumes nothing.
use Rattle.std.specs.Prelude.{ℕ, List, ◌++◌, codes, decimal}
use Rattle.std.specs.Fmt.{signed_decimal}
use Rattle.parts.specs.declared.scalar.Scalar.{Scalar}
use Rattle.parts.specs.declared.scalar.Scalar.TheVariants.{Zero, Root}

abbrev pub answer_line : Scalar → ℕ → List ℕ
answer_line Zero steps = codes "nought " ++ decimal steps
answer_line (Root k m) steps = signed_decimal k ++ (codes " " ++ (decimal m.parts ++ (codes " " ++ decimal steps)))
