use Rattle.std.proofs.Common.{refl, lit<}
use Rattle.text.proofs.Forms.{faulty_part, passed_on}
use Rattle.orders.proofs.LineParts.{job_form}
use Rattle.orders.proofs.lines.job_line.Goals as goal

pub returns-in_err-rest : goal.returns-in_err-rest
returns-in_err-rest c =
    rw (passed_on c.from_residual.result c.from_residual.ensures.1)
    (faulty_part job_form 0 tt tt (lit< tt) refl c.in_err-rest.ensures)

pub returns-in_err-job : goal.returns-in_err-job
returns-in_err-job c =
    rw (passed_on c.from_residual-in_err-job.result c.from_residual-in_err-job.ensures.1)
    (faulty_part job_form 1 tt tt (lit< tt) c.in_ok-rest.ensures c.in_err-job.ensures)

pub returns-in_err-length : goal.returns-in_err-length
returns-in_err-length c =
    rw (passed_on c.from_residual-in_err-length.result c.from_residual-in_err-length.ensures.1)
    (faulty_part job_form 2 (c.in_ok-job.job, tt) (c.in_ok-job.ensures.0, tt) (lit< tt) (cc (c.in_ok-rest.ensures, c.in_ok-job.ensures.1)) c.in_err-length.ensures)

pub returns-in_err-width : goal.returns-in_err-width
returns-in_err-width c =
    rw (passed_on c.from_residual-in_err-width.result c.from_residual-in_err-width.ensures.1)
    (faulty_part job_form 3 (c.in_ok-job.job, (c.in_ok-length.length, tt)) (c.in_ok-job.ensures.0, (c.in_ok-length.ensures.0, tt)) (lit< tt) (cc (c.in_ok-rest.ensures, c.in_ok-job.ensures.1, c.in_ok-length.ensures.1)) c.in_err-width.ensures)

pub returns-in_err-saw : goal.returns-in_err-saw
returns-in_err-saw c =
    rw (passed_on c.from_residual-in_err-saw.result c.from_residual-in_err-saw.ensures.1)
    (faulty_part job_form 4 (c.in_ok-job.job, (c.in_ok-length.length, (c.in_ok-width.width, tt))) (c.in_ok-job.ensures.0, (c.in_ok-length.ensures.0, (c.in_ok-width.ensures.0, tt))) (lit< tt) (cc (c.in_ok-rest.ensures, c.in_ok-job.ensures.1, c.in_ok-length.ensures.1, c.in_ok-width.ensures.1)) c.in_err-saw.ensures)

pub returns-in_err-trim : goal.returns-in_err-trim
returns-in_err-trim c =
    rw (passed_on c.from_residual-in_err-trim.result c.from_residual-in_err-trim.ensures.1)
    (faulty_part job_form 5 (c.in_ok-job.job, (c.in_ok-length.length, (c.in_ok-width.width, (c.in_ok-saw.saw, tt)))) (c.in_ok-job.ensures.0, (c.in_ok-length.ensures.0, (c.in_ok-width.ensures.0, (c.in_ok-saw.ensures.0, tt)))) (lit< tt) (cc (c.in_ok-rest.ensures, c.in_ok-job.ensures.1, c.in_ok-length.ensures.1, c.in_ok-width.ensures.1, c.in_ok-saw.ensures.1)) c.in_err-trim.ensures)
