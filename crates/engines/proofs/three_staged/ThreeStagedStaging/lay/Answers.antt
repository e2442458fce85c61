use Rattle.std.proofs.Common.{◌-◌, ◌≤◌, length, drop, ap, arith, rules}
use Rattle.std.proofs.lemmas.List.{length-take-le, length-drop}
use Rattle.layout.specs.Models.{model}
use Rattle.patterns.specs.Numbers.{numbers}
use Rattle.engines.proofs.ThreePattern.{left_few_at, both_few, both_written, both_worths, segment_small}
use Rattle.engines.proofs.three_staged.ThreeStagedStaging.lay.Goals as goal

pub dividing-c-requires-clause-small : goal.dividing-c-requires-clause-small
dividing-c-requires-clause-small c =
    let m = model c.args.task.now in
    let n = c.of-numbers.ensures in
    let few : length (numbers m) ≤ 64 = omega (arith, ap length n.list, c.of-numbers.result.stock.few) in
    let filled = rw (n.length, n.width, n.list) at c.segment_worths.ensures in
    λ j h. omega (arith, filled j (omega (arith, n.length)), segment_small m n.limits few j (omega (arith, n.length, n.limits.plate)))

pub lay_segment-left-requires-clause-room : goal.lay_segment-left-requires-clause-room
lay_segment-left-requires-clause-room c =
    let m = model c.args.task.now in
    let n = c.of-numbers.ensures in
    let filled = rw (n.length, n.width, n.list) at c.segment_worths.ensures in
    let chosen = rw n.length at c.dividing-c.ensures in
    rw (c.left_of.ensures, n.width, n.list) (omega (arith, left_few_at m n.limits c.segment_worths.new.worths filled c.dividing-c.result chosen, c.requires.places))

pub lay_segment-right-requires-clause-room : goal.lay_segment-right-requires-clause-room
lay_segment-right-requires-clause-room c =
    let m = model c.args.task.now in
    let n = c.of-numbers.ensures in
    let filled = rw (n.length, n.width, n.list) at c.segment_worths.ensures in
    let chosen = rw n.length at c.dividing-c.ensures in
    let before = rw (c.left_of.ensures, n.width, n.list) at c.lay_segment-left.ensures.written.count_is in
    let rows = c.lay_segment-left.new.rows in
    let left = c.lay_segment-left.result.rows in
    let few = both_few m n.limits c.segment_worths.new.worths filled c.dividing-c.result chosen left before in
    rw (c.right_of-segment.ensures, n.length, n.width, n.list) (omega (arith, few, c.requires.places, c.lay_segment-left.auto.rows, length-take-le (length rows - left) (drop left rows) (omega (arith, length-drop left rows)), length-drop left rows))

pub overflow_add-result-2 : goal.overflow_add-result-2
overflow_add-result-2 c =
    let m = model c.args.task.now in
    let n = c.of-numbers.ensures in
    let few : length (numbers m) ≤ 64 = omega (arith, ap length n.list, c.of-numbers.result.stock.few) in
    let r = c.dividing-c.result in
    let on_left = rw (c.left_of.ensures, n.width, n.list) at c.lay_segment-left.ensures.worth in
    let on_right = rw (c.right_of-segment.ensures, n.length, n.width, n.list) at c.lay_segment-right.ensures.worth in
    let left : c.lay_segment-left.result.worth ≤ 1_000_000_000_000 = omega (arith, on_left, segment_small m n.limits few r (omega (arith, c.dividing-c.ensures.within, n.length, n.limits.plate))) in
    let right : c.lay_segment-right.result.worth ≤ 1_000_000_000_000 = omega (arith, on_right, segment_small m n.limits few (m.length - r) (omega (arith, n.limits.plate))) in
    search rules

pub returns-clause-written : goal.returns-clause-written
returns-clause-written c =
    let m = model c.args.task.now in
    let n = c.of-numbers.ensures in
    let filled = rw (n.length, n.width, n.list) at c.segment_worths.ensures in
    let chosen = rw n.length at c.dividing-c.ensures in
    let on_left = rw (c.left_of.ensures, n.width, n.list) at c.lay_segment-left.ensures.written in
    let on_right = rw (c.right_of-segment.ensures, n.length, n.width, n.list) at c.lay_segment-right.ensures.written in
    both_written m n.limits c.segment_worths.new.worths filled c.dividing-c.result chosen c.lay_segment-left.result.rows c.lay_segment-right.result.rows c.lay_segment-left.new.rows c.lay_segment-right.new.rows _ on_left on_right

pub returns-clause-worth : goal.returns-clause-worth
returns-clause-worth c =
    let m = model c.args.task.now in
    let n = c.of-numbers.ensures in
    let filled = rw (n.length, n.width, n.list) at c.segment_worths.ensures in
    let chosen = rw n.length at c.dividing-c.ensures in
    let on_left = rw (c.left_of.ensures, n.width, n.list) at c.lay_segment-left.ensures.worth in
    let on_right = rw (c.right_of-segment.ensures, n.length, n.width, n.list) at c.lay_segment-right.ensures.worth in
    rw (on_left, on_right) (both_worths m n.limits c.segment_worths.new.worths filled c.dividing-c.result chosen)
