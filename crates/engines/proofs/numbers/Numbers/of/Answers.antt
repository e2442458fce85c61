use Rattle.std.proofs.Common.{◌≡◌, ap, arith, length}
use Rattle.layout.specs.Models.{model}
use Rattle.patterns.specs.Numbers.{numbers}
use Rattle.engines.proofs.Holding.{task_stock}
use Rattle.engines.proofs.numbers.Numbers.of.Goals as goal

pub invariant_of-result : goal.invariant_of-result
invariant_of-result c =
    let m = model c.args.task.now in
    let is : c.counted.result.items ≡ numbers m = rw (c.counted.ensures.counted, c.length-length.ensures, c.width-width.ensures, c.kinds.ensures.kinds) in
    record { stock = rw (is, c.length-length.ensures, c.width-width.ensures) (task_stock m c.kinds.ensures.limits (omega (arith, ap length is, c.counted.ensures.few))) }
