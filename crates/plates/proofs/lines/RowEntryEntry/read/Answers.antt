use Rattle.std.proofs.Common.{refl, lit<}
use Rattle.text.proofs.Forms.{faulty_part, passed_on}
use Rattle.plates.proofs.LineParts.{row_form}
use Rattle.plates.proofs.lines.RowEntryEntry.read.Goals as goal

pub returns-in_err-kind : goal.returns-in_err-kind
returns-in_err-kind c =
    rw (passed_on c.from_residual.result c.from_residual.ensures.1)
    (faulty_part row_form 0 tt tt (lit< tt) refl c.in_err-kind.ensures)

pub returns-in_err-turned : goal.returns-in_err-turned
returns-in_err-turned c =
    rw (passed_on c.from_residual-in_err-turned.result c.from_residual-in_err-turned.ensures.1)
    (faulty_part row_form 1 (c.in_ok-kind.kind, tt) (c.in_ok-kind.ensures.0, tt) (lit< tt) c.in_ok-kind.ensures.1 c.in_err-turned.ensures)

pub returns-in_err-segment : goal.returns-in_err-segment
returns-in_err-segment c =
    rw (passed_on c.from_residual-in_err-segment.result c.from_residual-in_err-segment.ensures.1)
    (faulty_part row_form 2 (c.in_ok-kind.kind, (c.in_ok-turned.turned, tt)) (c.in_ok-kind.ensures.0, tt) (lit< tt) (cc (c.in_ok-kind.ensures.1, c.in_ok-turned.ensures)) c.in_err-segment.ensures)

pub returns-in_err-strip : goal.returns-in_err-strip
returns-in_err-strip c =
    rw (passed_on c.from_residual-in_err-strip.result c.from_residual-in_err-strip.ensures.1)
    (faulty_part row_form 3 (c.in_ok-kind.kind, (c.in_ok-turned.turned, (c.in_ok-segment.segment, tt))) (c.in_ok-kind.ensures.0, (c.in_ok-segment.ensures.0, tt)) (lit< tt) (cc (c.in_ok-kind.ensures.1, c.in_ok-turned.ensures, c.in_ok-segment.ensures.1)) c.in_err-strip.ensures)

pub returns-in_err-spare : goal.returns-in_err-spare
returns-in_err-spare c =
    rw (passed_on c.from_residual-in_err-spare.result c.from_residual-in_err-spare.ensures.1)
    (faulty_part row_form 4 (c.in_ok-kind.kind, (c.in_ok-turned.turned, (c.in_ok-segment.segment, (c.in_ok-strip.strip, tt)))) (c.in_ok-kind.ensures.0, (c.in_ok-segment.ensures.0, (c.in_ok-strip.ensures.0, tt))) (lit< tt) (cc (c.in_ok-kind.ensures.1, c.in_ok-turned.ensures, c.in_ok-segment.ensures.1, c.in_ok-strip.ensures.1)) c.in_err-spare.ensures)

pub returns-in_err-x : goal.returns-in_err-x
returns-in_err-x c =
    rw (passed_on c.from_residual-in_err-x.result c.from_residual-in_err-x.ensures.1)
    (faulty_part row_form 5 (c.in_ok-kind.kind, (c.in_ok-turned.turned, (c.in_ok-segment.segment, (c.in_ok-strip.strip, (c.in_ok-spare.spare, tt))))) (c.in_ok-kind.ensures.0, (c.in_ok-segment.ensures.0, (c.in_ok-strip.ensures.0, tt))) (lit< tt) (cc (c.in_ok-kind.ensures.1, c.in_ok-turned.ensures, c.in_ok-segment.ensures.1, c.in_ok-strip.ensures.1, c.in_ok-spare.ensures)) c.in_err-x.ensures)

pub returns-in_err-y : goal.returns-in_err-y
returns-in_err-y c =
    rw (passed_on c.from_residual-in_err-y.result c.from_residual-in_err-y.ensures.1)
    (faulty_part row_form 6 (c.in_ok-kind.kind, (c.in_ok-turned.turned, (c.in_ok-segment.segment, (c.in_ok-strip.strip, (c.in_ok-spare.spare, (c.in_ok-x.x, tt)))))) (c.in_ok-kind.ensures.0, (c.in_ok-segment.ensures.0, (c.in_ok-strip.ensures.0, (c.in_ok-x.ensures.0, tt)))) (lit< tt) (cc (c.in_ok-kind.ensures.1, c.in_ok-turned.ensures, c.in_ok-segment.ensures.1, c.in_ok-strip.ensures.1, c.in_ok-spare.ensures, c.in_ok-x.ensures.1)) c.in_err-y.ensures)
