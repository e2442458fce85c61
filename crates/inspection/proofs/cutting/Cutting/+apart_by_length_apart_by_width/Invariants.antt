use Rattle.std.proofs.Common.{◌-◌}
use Rattle.inspection.specs.declared.places.Direction.TheVariants.{Length, Width}
use Rattle.inspection.specs.Directions.{placed}
use Rattle.inspection.proofs.Decide.{Remains}
use Rattle.inspection.proofs.cutting.Cutting.+apart_by_length_apart_by_width.Given as goal

-- the stages left fall with each call
abbrev pub decreases-apart_by_length : goal.decreases-apart_by_length
decreases-apart_by_length l = l.stages

abbrev pub decreases-apart_by_width : goal.decreases-apart_by_width
decreases-apart_by_width l = l.stages

-- only the rest of the part is left to decide
abbrev pub invariant-apart_by_length-loop-u : goal.invariant-apart_by_length-loop-u
invariant-apart_by_length-loop-u l = Remains l.self.saw (placed Length l.self.places.now) l.stages l.initial.rest l.rest

abbrev pub decreases-apart_by_length-loop-u : goal.decreases-apart_by_length-loop-u
decreases-apart_by_length-loop-u l = l.rest.along.to - l.rest.along.from

abbrev pub invariant-apart_by_width-loop-u : goal.invariant-apart_by_width-loop-u
invariant-apart_by_width-loop-u l = Remains l.self.saw (placed Width l.self.places.now) l.stages l.initial.rest l.rest

abbrev pub decreases-apart_by_width-loop-u : goal.decreases-apart_by_width-loop-u
decreases-apart_by_width-loop-u l = l.rest.along.to - l.rest.along.from
