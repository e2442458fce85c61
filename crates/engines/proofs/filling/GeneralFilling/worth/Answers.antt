use Rattle.engines.proofs.Fairness.{pieces_fair}
use Rattle.engines.proofs.filling.GeneralFilling.worth.Goals as goal

pub worth_within-requires-clause-fair : goal.worth_within-requires-clause-fair
worth_within-requires-clause-fair c =
    let n = c.args.numbers.now in
    rw (c.deref-2.ensures.0, c.offered.ensures, c.deref.ensures.0, c.no_wider-narrow.ensures) (pieces_fair n.length n.width n.list.items n.stock c.args.q.across)
