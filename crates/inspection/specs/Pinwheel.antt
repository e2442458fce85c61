-- The pinwheel: four pieces around a fifth, which no cut divides.
use Rattle.std.specs.Prelude.{ℕ, true, List, [], ◌∷◌}
use Rattle.layout.specs.declared.panel.Panel.{Panel}
use Rattle.layout.specs.declared.row.Row.{Row}
use Rattle.layout.specs.Apart.{Exact, ComesApart, plate}
use Rattle.layout.specs.Places.{pieces}

-- a row of a kind, turned or not, at x and y
abbrev pub row_at : ℕ → ℕ → ℕ → ℕ → Row
row_at kind turned x y = record { kind = kind; turned = turned; segment = 0; strip = 0; spare = 0; x = x; y = y }

-- a panel that may be turned
abbrev pub turning : ℕ → ℕ → Panel
turning length width = record { length = length; width = width; may_turn = true }

-- its kinds: 100x50 and 50x50
abbrev pub pinwheel_kinds : List Panel
pinwheel_kinds = turning 100 50 ∷ (turning 50 50 ∷ [])

-- its rows: the four around, and the one in the middle
abbrev pub pinwheel_rows : List Row
pinwheel_rows = row_at 0 0 0 0 ∷ (row_at 0 1 100 0 ∷ (row_at 0 0 50 100 ∷ (row_at 0 1 0 50 ∷ (row_at 1 0 50 50 ∷ []))))

-- on its plate of 150x150 it comes apart in no number of stages, at no saw width
abbrev pub NeverApart : Type 0
NeverApart = (g s : ℕ) → ComesApart Exact g s (plate 150 150) (pieces pinwheel_kinds pinwheel_rows) → ⊥
