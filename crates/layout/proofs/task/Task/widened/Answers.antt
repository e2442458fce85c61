use Rattle.std.proofs.Common.{subst, arith}
use Rattle.layout.specs.Models.{model}
use Rattle.layout.specs.Tasks.{WithinReach, BeyondReach}
use Rattle.layout.proofs.Tasks.{within_limits}
use Rattle.layout.proofs.Variants.{widened_within_limits, too_wide}
use Rattle.layout.proofs.task.Task.widened.Goals as goal

pub returns-then-not-within : goal.returns-then-not-within
returns-then-not-within c =
    let m = model c.args.self.now in
    let room = c.in_ok-room.ensures in
    too_wide c.args.by m room.0 (subst (λ n. BeyondReach n m) room.1 c.if-not-within.ensures)

pub with_kinds_widened-requires : goal.with_kinds_widened-requires
with_kinds_widened-requires c =
    let t = c.args.self.now in
    let m = model t in
    let room = c.in_ok-room.ensures in
    let h = widened_within_limits c.args.by m room.0 (within_limits t) (subst (λ n. WithinReach n m) room.1 c.if-not-within.ensures) in
    record { plate = omega (arith, h.plate); few = h.few; sides = h.sides; values = h.values }
