use Rattle.std.proofs.Common.{[], ◌∷◌, ◌++◌}
use Rattle.text.proofs.Forms.{passed_on}
use Rattle.text.proofs.Many.{ahead_more}
use Rattle.orders.specs.Lines.{line_of_item, ShortItem}
use Rattle.orders.proofs.Whole.{faulty_job, faulty_item}
use Rattle.orders.proofs.check.read_through.Goals as goal

pub returns-in_err-rest : goal.returns-in_err-rest
returns-in_err-rest c = rw (passed_on c.from_residual.result c.from_residual.ensures.1) (faulty_job c.in_err-rest.ensures)

pub returns-in_err-after : goal.returns-in_err-after
returns-in_err-after c =
    let read = c.in_ok-rest.ensures in
    rw (passed_on c.from_residual-in_err-after.result c.from_residual-in_err-after.ensures.1)
    (faulty_item c.in_ok-rest.field-0-0 read.0 c.args.text.now c.in_ok-rest.rest.now read.1 c.loop-rest.invariant.0 c.loop-rest.rest.now c.loop-rest.invariant.1 c.loop-rest-test.ensures c.in_err-after.ensures)

pub loop-rest-preserved : goal.loop-rest-preserved
loop-rest-preserved c =
    let is = c.loop-rest.invariant.0 in
    let i = c.in_ok-after.field-0-0 in
    (is ++ (i ∷ []), ahead_more line_of_item ShortItem c.in_ok-rest.rest.now c.loop-rest.rest.now c.in_ok-after.after.now is i c.loop-rest.invariant.1 c.in_ok-after.ensures)
