use Rattle.std.proofs.Common.{◌+◌, ◌-◌, ◌^◌, ◌<◌}
use Rattle.inspection.specs.Directions.{placed}
use Rattle.inspection.specs.Groups.{Growing}
use Rattle.inspection.proofs.cutting.Cutting.group.Given as goal

-- the group grows, and a cut right after it ends within 32 bits
abbrev pub invariant-loop-t : goal.invariant-loop-t
invariant-loop-t l = Growing l.self.saw (placed l.direction l.self.places.now) l.part l.u × (l.u.to + l.self.saw < 2 ^ 32)

abbrev pub decreases-loop-t : goal.decreases-loop-t
decreases-loop-t l = l.part.along.to - l.u.to
