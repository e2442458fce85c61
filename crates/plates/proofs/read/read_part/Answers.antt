use Rattle.std.proofs.Common.{arith}
use Rattle.text.proofs.Many.{faulty_early}
use Rattle.plates.proofs.read.read_part.Goals as goal

pub overflow_add-result : goal.overflow_add-result
overflow_add-result g c =
    let faulty = rw c.in-Err-Line.field-0-is at c.in-Err-Line.ensures in
    omega (arith, faulty_early g.E.Entry.line g.met.E.Entry.some c.args.text.now _ c.in-Err-Line.lines faulty)

pub overflow_add-result-in-Err-Line : goal.overflow_add-result-in-Err-Line
overflow_add-result-in-Err-Line g c =
    let faulty = rw c.in-Err-Line.field-0-is at c.in-Err-Line.ensures in
    omega (arith, faulty_early g.E.Entry.line g.met.E.Entry.some c.args.text.now _ c.in-Err-Line.lines faulty)
