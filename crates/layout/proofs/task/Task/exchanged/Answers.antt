use Rattle.std.proofs.Common.{arith}
use Rattle.layout.specs.Models.{model}
use Rattle.layout.proofs.Tasks.{within_limits}
use Rattle.layout.proofs.Variants.{exchanged_within_limits}
use Rattle.layout.proofs.task.Task.exchanged.Goals as goal

pub with_kinds-requires : goal.with_kinds-requires
with_kinds-requires c =
    let h = exchanged_within_limits (model c.args.self.now) (within_limits c.args.self.now) in
    record { plate = omega (arith, h.plate); few = h.few; sides = h.sides; values = h.values }
