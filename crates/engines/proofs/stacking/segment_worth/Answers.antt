use Rattle.engines.proofs.Fairness.{strips_fair}
use Rattle.engines.proofs.stacking.segment_worth.Goals as goal

pub worth_within-requires-clause-fair : goal.worth_within-requires-clause-fair
worth_within-requires-clause-fair g c =
    let held = c.no_longer-held.result in
    rw (c.deref.ensures.0, c.strips.ensures) (strips_fair held.length held.width held.list.items held.stock g.F.Filling.filled)
