-- The dividing position by the worths of segments alone.
use Rattle.std.specs.Prelude.{ℕ, ◌+◌, ◌-◌, ◌<◌, ◌≤◌, List, slice_index}

-- what the segments on both sides of c are worth together, by the worth of a segment of each length
abbrev pub both_sides : List ℕ → ℕ → ℕ → ℕ
both_sides worths l c = slice_index worths c + slice_index worths (l - c)

-- of the places up to the last this one has the greatest value, and it is the lowest such
pub record LowestGreatest (value : ℕ → ℕ) (last place : ℕ) : Type 0 where
  pub within : place ≤ last
  pub greatest : (c : ℕ) → c ≤ last → value c ≤ value place
  pub lowest : (c : ℕ) → c < place → value c < value place
