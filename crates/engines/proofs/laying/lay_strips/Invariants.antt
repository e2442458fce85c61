use Rattle.std.proofs.Common.{◌≡◌, ◌+◌, ◌≤◌, ◌++◌, length, take, drop}
use Rattle.engines.specs.Writing.{sum_across, strip_rows}
use Rattle.engines.proofs.laying.lay_strips.Given as goal

-- what is written, and what is still to be written, are all the strips; and they fit
abbrev pub invariant-loop-q : goal.invariant-loop-q
invariant-loop-q g l =
    record {
      strips : l.corner.strip ≡ l.initial.corner.strip + l.q-index;
      along : l.corner.x ≡ l.initial.corner.x;
      across : l.corner.y + sum_across (drop l.q-index l.chosen) ≤ 3200;
      room : l.end + length (strip_rows g.F.Filling.filled l.corner l.numbers.length l.numbers.list.items (drop l.q-index l.chosen)) ≡ length (strip_rows g.F.Filling.filled l.initial.corner l.numbers.length l.numbers.list.items l.chosen);
      whole : take l.end l.rows ++ strip_rows g.F.Filling.filled l.corner l.numbers.length l.numbers.list.items (drop l.q-index l.chosen) ≡ strip_rows g.F.Filling.filled l.initial.corner l.numbers.length l.numbers.list.items l.chosen;
    }
