use Rattle.std.proofs.Common.{refl, lit<}
use Rattle.text.proofs.Forms.{faulty_part, passed_on}
use Rattle.plates.proofs.LineParts.{kind_form}
use Rattle.plates.proofs.lines.KindEntryEntry.read.Goals as goal

pub returns-in_err-rest : goal.returns-in_err-rest
returns-in_err-rest c =
    rw (passed_on c.from_residual.result c.from_residual.ensures.1)
    (faulty_part kind_form 0 tt tt (lit< tt) refl c.in_err-rest.ensures)

pub returns-in_err-length : goal.returns-in_err-length
returns-in_err-length c =
    rw (passed_on c.from_residual-in_err-length.result c.from_residual-in_err-length.ensures.1)
    (faulty_part kind_form 1 tt tt (lit< tt) c.in_ok-rest.ensures c.in_err-length.ensures)

pub returns-in_err-width : goal.returns-in_err-width
returns-in_err-width c =
    rw (passed_on c.from_residual-in_err-width.result c.from_residual-in_err-width.ensures.1)
    (faulty_part kind_form 2 (c.in_ok-length.length, tt) (c.in_ok-length.ensures.0, tt) (lit< tt) (cc (c.in_ok-rest.ensures, c.in_ok-length.ensures.1)) c.in_err-width.ensures)

pub returns-in_err-may_turn : goal.returns-in_err-may_turn
returns-in_err-may_turn c =
    rw (passed_on c.from_residual-in_err-may_turn.result c.from_residual-in_err-may_turn.ensures.1)
    (faulty_part kind_form 3 (c.in_ok-length.length, (c.in_ok-width.width, tt)) (c.in_ok-length.ensures.0, (c.in_ok-width.ensures.0, tt)) (lit< tt) (cc (c.in_ok-rest.ensures, c.in_ok-length.ensures.1, c.in_ok-width.ensures.1)) c.in_err-may_turn.ensures)
