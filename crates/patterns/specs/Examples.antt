-- Worked plates. No kind of them may turn.
use Rattle.std.specs.Prelude.{◌≡◌, ℕ, true, false, [], ◌∷◌}
use Rattle.layout.specs.declared.panel.Kind.{Kind}
use Rattle.layout.specs.declared.row.Row.{Row}
use Rattle.layout.specs.Tasks.{Model, given, worth}
use Rattle.patterns.specs.Strips.{by_value}
use Rattle.patterns.specs.Named.{two_staged_pattern, division, three_staged_pattern}

-- a wanted kind that may not turn, of this length, width and value
abbrev pub fixed : ℕ → ℕ → ℕ → Kind
fixed l w v = record { panel = record { length = l; width = w; may_turn = false }; value = v; wanted = true }

-- the same, not wanted
abbrev pub unwanted : ℕ → ℕ → ℕ → Kind
unwanted l w v = record { panel = record { length = l; width = w; may_turn = false }; value = v; wanted = false }

-- a row: its kind, segment, strip, x and y
abbrev pub piece : ℕ → ℕ → ℕ → ℕ → ℕ → Row
piece k s n x y = record { kind = k; turned = 0; segment = s; strip = n; spare = 0; x = x; y = y }

-- a square plate with strips across and along
abbrev pub square : Model
square = given 150 150 (fixed 100 50 1 ∷ (fixed 50 150 1 ∷ []))

-- a plate on which a strip is higher than all its pieces
abbrev pub low : Model
low = given 100 110 (fixed 100 60 1 ∷ (fixed 100 50 5 ∷ []))

-- a plate on which both rules reach the same worth
abbrev pub narrow : Model
narrow = given 150 50 (fixed 100 50 2 ∷ (fixed 50 50 1 ∷ []))

-- the plate of the printed case
abbrev pub printed : Model
printed = given 200 150 (fixed 100 50 6 ∷ (fixed 70 100 15 ∷ []))

-- both rules name the empty list
abbrev pub BothEmpty : Model → Type 0
BothEmpty m = (two_staged_pattern by_value m ≡ []) × (three_staged_pattern by_value m ≡ [])

-- what the named patterns of these plates are
pub record WorkedCases : Type 0 where
  pub square_two : two_staged_pattern by_value square ≡ piece 0 0 0 0 0 ∷ (piece 0 0 1 0 50 ∷ (piece 0 0 2 0 100 ∷ []))
  pub square_two_worth : worth square (two_staged_pattern by_value square) ≡ 3
  pub square_three : three_staged_pattern by_value square ≡ piece 1 0 0 0 0 ∷ (piece 0 1 0 50 0 ∷ (piece 0 1 1 50 50 ∷ (piece 0 1 2 50 100 ∷ [])))
  pub square_three_worth : worth square (three_staged_pattern by_value square) ≡ 4
  pub square_divided : (division by_value square 150).place ≡ 50
  pub low_two : two_staged_pattern by_value low ≡ piece 1 0 0 0 0 ∷ (piece 1 0 1 0 60 ∷ [])
  pub low_two_worth : worth low (two_staged_pattern by_value low) ≡ 10
  pub narrow_two : two_staged_pattern by_value narrow ≡ piece 0 0 0 0 0 ∷ (piece 1 0 0 100 0 ∷ [])
  pub narrow_two_worth : worth narrow (two_staged_pattern by_value narrow) ≡ 3
  pub narrow_three : three_staged_pattern by_value narrow ≡ piece 1 0 0 0 0 ∷ (piece 1 0 0 50 0 ∷ (piece 1 0 0 100 0 ∷ []))
  pub narrow_three_worth : worth narrow (three_staged_pattern by_value narrow) ≡ 3
  pub printed_two : two_staged_pattern by_value printed ≡ piece 0 0 0 0 0 ∷ (piece 0 0 0 100 0 ∷ (piece 1 0 1 0 50 ∷ (piece 1 0 1 70 50 ∷ [])))
  pub printed_two_worth : worth printed (two_staged_pattern by_value printed) ≡ 42
  pub without_length : BothEmpty (given 0 150 (fixed 100 50 1 ∷ (fixed 50 150 1 ∷ [])))
  pub without_width : BothEmpty (given 150 0 (fixed 100 50 1 ∷ (fixed 50 150 1 ∷ [])))
  pub without_kinds : BothEmpty (given 150 150 [])
  pub none_wanted : BothEmpty (given 150 150 (unwanted 100 50 1 ∷ (unwanted 50 150 1 ∷ [])))
