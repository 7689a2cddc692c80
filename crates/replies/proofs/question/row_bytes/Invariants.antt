use Rattle.std.proofs.Common.{◌≡◌, take}
use Rattle.replies.specs.Input.{row_bytes}
use Rattle.replies.proofs.question.row_bytes.Given as goal

abbrev pub invariant-loop-character : goal.invariant-loop-character
invariant-loop-character l = l.row.items ≡ row_bytes (take l.character-index l.line)
