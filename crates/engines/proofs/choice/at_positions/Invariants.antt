use Rattle.std.proofs.Common.{◌≡◌, take}
use Rattle.patterns.specs.Numbers.{no_piece}
use Rattle.patterns.specs.Strips.{at}
use Rattle.engines.proofs.choice.at_positions.Given as goal

abbrev pub invariant-loop-k : goal.invariant-loop-k
invariant-loop-k l = l.chosen.items ≡ at no_piece l.numbers (take l.k-index l.positions)
