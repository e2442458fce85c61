use Rattle.engines.proofs.Fairness.{strips_fair}
use Rattle.engines.proofs.stacking.chosen_strips.Goals as goal

pub chosen-requires-clause-fair : goal.chosen-requires-clause-fair
chosen-requires-clause-fair g c =
    let n = c.args.numbers.now in
    rw (c.deref-2.ensures.0, c.strips-candidates.ensures) (strips_fair n.length n.width n.list.items n.stock g.F.Filling.filled)
