-- What the strips of a segment hold, and the strips that are chosen for it.
use Rattle.std.specs.Prelude.{ℕ, ◌-◌, if◌then◌else◌, List, map, ◌==◌}
use Rattle.choosing.specs.Choice.{first}
use Rattle.choosing.specs.Plain.{plain}
use Rattle.patterns.specs.declared.Oriented.{Oriented}
use Rattle.patterns.specs.Numbers.{no_piece}
use Rattle.patterns.specs.Strips.{Strip, at, by_across, by_value, no_longer, general_strip, uniform_strip, stack}
use Rattle.patterns.specs.Strips as strips
use Rattle.engines.specs.declared.segment.Segment.{Segment}

-- what a strip of a number holds: a choice of all the numbers, or that number alone
pub data Filled : Type 0 where
  OfAll : Filled
  OfOne : Filled

-- the strip of the number q along the length l, of the numbers os or of q alone
abbrev pub strip_of : Filled → ℕ → List Oriented → Oriented → Strip ℕ
strip_of OfAll l os q = general_strip by_value l os q
strip_of OfOne l os q = uniform_strip by_value l q

-- the numbers whose strips are chosen for a segment of length l and width w
abbrev pub strips_of : Filled → ℕ → ℕ → List Oriented → List Oriented
strips_of f l w os = at no_piece os (first plain (map by_across (map (strip_of f l os) os)) w).order

-- the strips that are chosen for a segment of length l, of the numbers that are no longer
abbrev pub stacked : Filled → ℕ → ℕ → List Oriented → strips.Segment ℕ
stacked f l w os = stack plain w (map (strip_of f l (no_longer l os)) (no_longer l os))

-- ---- the two segments of the three-staged rule

-- the segment from 0 to c
abbrev pub left_side : ℕ → Segment
left_side c = record { number = 0; x = 0; length = c }

-- the segment from c to l; it has number 0 where there are no rows on the left
abbrev pub right_side : ℕ → ℕ → ℕ → Segment
right_side c l left_rows = record { number = if left_rows == 0 then 0 else 1; x = c; length = l - c }

-- the greatest worth of a segment of length c whose strips hold one number each
abbrev pub uniform_worth : ℕ → ℕ → List Oriented → ℕ
uniform_worth c w os = (stacked OfOne c w os).worth
