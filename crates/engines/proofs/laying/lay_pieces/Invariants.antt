use Rattle.std.proofs.Common.{◌≡◌, ◌+◌, ◌≤◌, ◌++◌, take, drop}
use Rattle.patterns.specs.Strips.{rows_of_strip}
use Rattle.engines.specs.Writing.{sum_along}
use Rattle.engines.proofs.laying.lay_pieces.Given as goal

-- what is written, and what is still to be written, is the whole strip; and it fits
abbrev pub invariant-loop-i : goal.invariant-loop-i
invariant-loop-i l =
    record {
      fits : l.x + sum_along (drop l.i l.pieces) ≤ 3200;
      whole : take l.i l.rows ++ rows_of_strip l.corner.segment l.corner.strip l.corner.y l.x (drop l.i l.pieces) ≡ rows_of_strip l.corner.segment l.corner.strip l.corner.y l.corner.x l.pieces;
    }
