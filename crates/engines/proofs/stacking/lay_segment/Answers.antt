use Rattle.std.proofs.Common.{arith}
use Rattle.engines.proofs.Chosen.{chosen_rows, strips_across, strips_count}
use Rattle.engines.proofs.stacking.lay_segment.Goals as goal

pub lay_strips-requires-clause-counted : goal.lay_strips-requires-clause-counted
lay_strips-requires-clause-counted g c =
    let held = c.no_longer-held.result in
    rw (c.deref.ensures.0, c.chosen_strips-choice.ensures.numbers) (strips_count held.length held.width held.list.items held.stock g.F.Filling.filled)

pub lay_strips-requires-clause-across : goal.lay_strips-requires-clause-across
lay_strips-requires-clause-across g c =
    let held = c.no_longer-held.result in
    let most = strips_across held.length held.width held.list.items held.stock g.F.Filling.filled in
    rw (c.deref.ensures.0, c.chosen_strips-choice.ensures.numbers) (omega (arith, most, held.stock.across_most))

pub lay_strips-requires-clause-room : goal.lay_strips-requires-clause-room
lay_strips-requires-clause-room g c =
    let s = c.args.segment in
    let n = c.args.numbers.now in
    let held = c.no_longer-held.result in
    let is = c.no_longer-held.ensures in
    let laid = chosen_rows g.F.Filling.filled s.length n.width n.list.items held.length held.width held.list.items held.stock is.length is.width is.list s.number s.x in
    rw (c.deref.ensures.0, c.chosen_strips-choice.ensures.numbers, laid) c.requires.room

pub returns-clause-written : goal.returns-clause-written
returns-clause-written g c =
    let s = c.args.segment in
    let n = c.args.numbers.now in
    let held = c.no_longer-held.result in
    let is = c.no_longer-held.ensures in
    let laid = chosen_rows g.F.Filling.filled s.length n.width n.list.items held.length held.width held.list.items held.stock is.length is.width is.list s.number s.x in
    rw (c.deref.ensures.0, c.chosen_strips-choice.ensures.numbers, laid) at c.lay_strips.ensures
