-- Every task keeps to its limits.
use Rattle.std.proofs.Common.{length-take, arith}
use Rattle.layout.specs.declared.task.Task.{Task}
use Rattle.layout.specs.Tasks.{WithinLimits}
use Rattle.layout.specs.Models.{model}

pub within_limits : (t : Task) → WithinLimits (model t)
within_limits t = record { plate = t.plate; few = omega (arith, length-take t.kinds.used t.kinds.places, t.kinds.few); sides = t.sides; values = t.values }
