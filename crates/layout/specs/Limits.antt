-- The limits of a task. This file does not name Task, whose ghost fields cite it.
use Rattle.std.specs.Prelude.{ℕ, ◌<◌, ◌≤◌, false, ◌⊎◌, List, length, slice_index_or}
use Rattle.layout.specs.declared.panel.Kind.{Kind}

-- n lies from low to high
abbrev pub Between : ℕ → ℕ → ℕ → Type 0
Between low high n = (low ≤ n) × (n ≤ high)

-- n lies below low or above high
abbrev pub Outside : ℕ → ℕ → ℕ → Type 0
Outside low high n = (n < low) ⊎ (high < n)

-- what stands past the end of a list of kinds
abbrev pub no_kind : Kind
no_kind = record { panel = record { length = 0; width = 0; may_turn = false }; value = 0; wanted = false }

-- P holds of each kind
abbrev pub EachKind : (Kind → Type 0) → List Kind → Type 0
EachKind P kinds = (i : ℕ) → i < length kinds → P (slice_index_or kinds i no_kind)

-- P holds of some kind
abbrev pub SomeKind : (Kind → Type 0) → List Kind → Type 0
SomeKind P kinds = (i : ℕ) × (i < length kinds) × P (slice_index_or kinds i no_kind)

-- both sides are 50 to 3,200
abbrev pub LawfulSides : Kind → Type 0
LawfulSides k = Between 50 3200 k.panel.length × Between 50 3200 k.panel.width

-- a side is below 50 or above 3,200
abbrev pub BadSides : Kind → Type 0
BadSides k = Outside 50 3200 k.panel.length ⊎ Outside 50 3200 k.panel.width

-- the value is 1 to 1,000,000
abbrev pub LawfulValue : Kind → Type 0
LawfulValue k = Between 1 1000000 k.value

-- the value is below 1 or above 1,000,000
abbrev pub BadValue : Kind → Type 0
BadValue k = Outside 1 1000000 k.value
