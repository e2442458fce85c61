-- Numbers that strips can be made of.
use Rattle.std.specs.Prelude.{ℕ, ◌≤◌, Bool, ◌||◌, List, length, ◌==◌}
use Rattle.std.specs.List.{All}
use Rattle.layout.specs.declared.panel.Kind.{Kind}
use Rattle.patterns.specs.Counting.{Counts}
use Rattle.patterns.specs.declared.Oriented.{Oriented}

-- at most 64 numbers with lawful sizes and values, each of which fits l by w
pub record Stock (l w : ℕ) (os : List Oriented) : Type 0 where
  pub few : length os ≤ 64
  pub along_most : l ≤ 3200
  pub across_most : w ≤ 3200
  pub each : All (Counts l w) os

-- a kind may stand in the turn t
abbrev pub turn_allowed : Kind → ℕ → Bool
turn_allowed k t = t == 0 || k.panel.may_turn
