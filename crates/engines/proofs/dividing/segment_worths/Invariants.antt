use Rattle.std.proofs.Common.{◌≡◌, ℕ, ◌<◌, get_or}
use Rattle.engines.specs.Fillings.{uniform_worth}
use Rattle.engines.proofs.dividing.segment_worths.Given as goal

abbrev pub invariant-loop-length : goal.invariant-loop-length
invariant-loop-length l = (j : ℕ) → j < l.length → get_or l.worths j 0 ≡ uniform_worth j l.numbers.width l.numbers.list.items
