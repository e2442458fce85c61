use Rattle.std.proofs.Common.{length as size, sym, ap, subst, arith}
use Rattle.std.proofs.lemmas.List.{length_push}
use Rattle.std.proofs.lemmas.Iterator.{YieldsList-from_slice, YieldsList-from_zip}
use Rattle.std.proofs.lemmas.Iterator.Consumers.{YieldsList-turn}
use Rattle.layout.specs.Tables.{listed}
use Rattle.accounts.specs.Accounts.{Summed}
use Rattle.accounts.specs.Books.{book}
use Rattle.accounts.proofs.Books.{lawful_book, summed_push, at_place}
use Rattle.accounts.proofs.account.Account.counts_after.Goals as goal

pub loop-count-preserved : goal.loop-count-preserved
loop-count-preserved c =
    let b = book c.args.self.now in
    let tallies = c.args.tallies.now in
    let sums = listed c.loop-count.sums in
    let pairs = YieldsList-from_zip (YieldsList-from_slice b.counted cc) (YieldsList-from_slice tallies cc) in
    let turn =
    YieldsList-turn (YieldsList-from_zip pairs (YieldsList-from_slice b.ordered cc)) c.loop-count.yielded _ c.loop-count.yielded_by _ c.next.new.self ((c.in-Some.count, c.in-Some.tally), c.in-Some.number) c.in-Some.is c.next.ensures.steps in
    let here = at_place b.counted tallies b.ordered (size c.loop-count.yielded) _ _ _ turn.0 turn.1 in
    let few = (lawful_book c.args.self.now).few in
    let more = c.push.ensures.added (omega (arith, here.0, few, c.loop-count.invariant.0)) in (
      omega (arith, ap size more, length_push sums c.in_ok-sum_up_to.field-0, c.loop-count.invariant.0, length_push c.loop-count.yielded ((c.in-Some.count, c.in-Some.tally), c.in-Some.number)),
      subst (Summed b tallies c.args.runs) (sym more) (summed_push b tallies c.args.runs (size c.loop-count.yielded) sums _ _ _ _ c.loop-count.invariant.0 here c.in_ok-sum_up_to.ensures c.loop-count.invariant.1),
    )
