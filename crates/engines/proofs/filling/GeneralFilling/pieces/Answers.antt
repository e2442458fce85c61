use Rattle.engines.proofs.Fairness.{pieces_fair}
use Rattle.engines.proofs.filling.GeneralFilling.pieces.Goals as goal

pub chosen-requires-clause-fair : goal.chosen-requires-clause-fair
chosen-requires-clause-fair c =
    let n = c.args.numbers.now in
    rw (c.deref-3.ensures.0, c.offered.ensures, c.deref-2.ensures.0, c.no_wider-narrow.ensures) (pieces_fair n.length n.width n.list.items n.stock c.args.q.across)
