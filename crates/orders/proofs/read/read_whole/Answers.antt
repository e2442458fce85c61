use Rattle.text.proofs.Forms.{passed_on}
use Rattle.orders.proofs.Whole.{faulty_job, stopped}
use Rattle.orders.proofs.read.read_whole.Goals as goal

pub returns-in_err-head : goal.returns-in_err-head
returns-in_err-head c = rw (passed_on c.from_residual.result c.from_residual.ensures.1) (faulty_job c.in_err-head.ensures)

pub returns-in_err-items : goal.returns-in_err-items
returns-in_err-items c =
    rw (passed_on c.from_residual-in_err-items.result c.from_residual-in_err-items.ensures.1)
    (stopped c.in_ok-head.head c.in_ok-head.ensures.0 c.args.text.now c.in_ok-head.rest.now c.in_ok-head.ensures.1 c.in_err-items.field-0.0 c.in_err-items.ensures)
