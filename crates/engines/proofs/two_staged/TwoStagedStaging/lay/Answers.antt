use Rattle.std.proofs.Common.{◌≤◌, length, ap, ◌∙◌, arith}
use Rattle.layout.specs.Models.{model}
use Rattle.patterns.specs.Numbers.{numbers}
use Rattle.engines.proofs.TwoPattern.{two_rows, two_worths, two_few}
use Rattle.engines.proofs.two_staged.TwoStagedStaging.lay.Goals as goal

pub lay_segment-requires-clause-room : goal.lay_segment-requires-clause-room
lay_segment-requires-clause-room c =
    let m = model c.args.task.now in
    let n = c.of-numbers.ensures in
    let few : length (numbers m) ≤ 64 = omega (arith, ap length n.list, c.of-numbers.result.stock.few) in
    rw (n.length, n.width, n.list, two_rows m n.limits few) (omega (arith, two_few m n.limits, c.requires.places))

pub returns-clause-written : goal.returns-clause-written
returns-clause-written c =
    let m = model c.args.task.now in
    let n = c.of-numbers.ensures in
    let few : length (numbers m) ≤ 64 = omega (arith, ap length n.list, c.of-numbers.result.stock.few) in
    rw (n.length, n.width, n.list, two_rows m n.limits few) at c.lay_segment.ensures.written

pub returns-clause-worth : goal.returns-clause-worth
returns-clause-worth c =
    let m = model c.args.task.now in
    let n = c.of-numbers.ensures in
    let few : length (numbers m) ≤ 64 = omega (arith, ap length n.list, c.of-numbers.result.stock.few) in
    rw (n.length, n.width, n.list) at c.lay_segment.ensures.worth ∙ two_worths m n.limits few
