use Rattle.std.proofs.Common.{length}
use Rattle.text.proofs.Numerals.{Read}
use Rattle.text.proofs.fields.number.Given as goal

abbrev pub invariant-loop-byte : goal.invariant-loop-byte
invariant-loop-byte l = Read l.digits l.value l.text l.left

abbrev pub decreases-loop-byte : goal.decreases-loop-byte
decreases-loop-byte l = length l.left
