use Rattle.std.proofs.Common.{length, vec_items}
use Rattle.text.proofs.Many.{Ahead}
use Rattle.text.proofs.lines.read_lines.Given as goal

-- the lines so far, and then the rest
abbrev pub invariant-loop-rest : goal.invariant-loop-rest
invariant-loop-rest g l = Ahead g.E.Entry.line g.E.Entry.Short l.text (vec_items l.entries) l.rest

abbrev pub decreases-loop-rest : goal.decreases-loop-rest
decreases-loop-rest g l = length l.rest
