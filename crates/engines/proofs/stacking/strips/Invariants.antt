use Rattle.std.proofs.Common.{◌≡◌, map, take}
use Rattle.patterns.specs.Strips.{by_across}
use Rattle.engines.specs.Fillings.{strip_of}
use Rattle.engines.proofs.stacking.strips.Given as goal

abbrev pub invariant-loop-q : goal.invariant-loop-q
invariant-loop-q g l = l.candidates.items ≡ map by_across (map (strip_of g.F.Filling.filled l.numbers.length l.numbers.list.items) (take l.q-index l.q-items))
