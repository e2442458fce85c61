-- Rows that are written one after the other.
use Rattle.std.specs.Prelude.{◌≡◌, ℕ, ◌+◌, ◌<◌, List, map, length, take}
use Rattle.layout.specs.declared.row.Row.{Row}
use Rattle.patterns.specs.declared.Oriented.{Oriented}
use Rattle.patterns.specs.Sequences.{sum}
use Rattle.patterns.specs.Strips.{lay}
use Rattle.engines.specs.Fillings.{Filled, stacked, strip_of}
use Rattle.engines.specs.declared.segment.Corner.{Corner}
use Rattle.engines.specs.declared.segment.Segment.{Segment}

-- so many rows at the front are these
pub record Written (rows new : List Row) (count : ℕ) : Type 0 where
  pub count_is : count ≡ length rows
  pub front : take count new ≡ rows

-- the sizes along, and the sizes across, added
abbrev pub sum_along : List Oriented → ℕ
sum_along os = sum (λ (o : Oriented). o.along) os

abbrev pub sum_across : List Oriented → ℕ
sum_across os = sum (λ (o : Oriented). o.across) os

-- where the strip above the strip of q begins
abbrev pub corner_above : Corner → Oriented → Corner
corner_above k q = record { segment = k.segment; strip = k.strip + 1; x = k.x; y = k.y + q.across }

-- the rows of the strips of the numbers qs from a corner on
abbrev pub strip_rows : Filled → Corner → ℕ → List Oriented → List Oriented → List Row
strip_rows f k l os qs = lay k.segment k.strip k.x k.y (map (strip_of f l os) qs)

-- the rows of a segment
abbrev pub side_rows : Filled → Segment → ℕ → List Oriented → List Row
side_rows f s w os = lay s.number 0 s.x 0 (stacked f s.length w os).strips

-- a position in a list
abbrev pub Known : List Oriented → ℕ → Type 0
Known os k = k < length os
