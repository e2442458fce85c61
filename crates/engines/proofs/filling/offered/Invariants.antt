use Rattle.std.proofs.Common.{◌≡◌, map, take}
use Rattle.patterns.specs.Strips.{by_along, by_value}
use Rattle.engines.proofs.filling.offered.Given as goal

abbrev pub invariant-loop-o : goal.invariant-loop-o
invariant-loop-o l = l.candidates.items ≡ map (by_along by_value) (take l.o-index l.numbers)
