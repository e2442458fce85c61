-- Pieces that were moved or enlarged, and slices of a part.
use Rattle.std.specs.Prelude.{ℕ, ◌+◌, ◌≤◌, ◌⊎◌}
use Rattle.layout.specs.declared.rect.Span.{Span}
use Rattle.layout.specs.declared.rect.Rect.{Rect}
use Rattle.layout.specs.Apart.{Pieces, Clear}

-- an extent moved by t
abbrev pub shift : ℕ → Span → Span
shift t U = record { from = U.from + t; to = U.to + t }

-- an extent with h added at its end
abbrev pub lengthen : ℕ → Span → Span
lengthen h U = record { from = U.from; to = U.to + h }

-- all pieces moved by t in both directions
abbrev pub moved : ℕ → Pieces → Pieces
moved t ps = record { count = ps.count; place = λ i. record { along = shift t (ps.place i).along; across = shift t (ps.place i).across } }

-- all pieces with h added to both sides
abbrev pub enlarged : ℕ → Pieces → Pieces
enlarged h ps = record { count = ps.count; place = λ i. record { along = lengthen h (ps.place i).along; across = lengthen h (ps.place i).across } }

-- the part R cut down to the extent U in the direction of the stage
abbrev pub slice : Span → Rect → Rect
slice U R = record { along = U; across = R.across }

-- no clear cut goes into the part S
abbrev pub Solid : ℕ → Pieces → Rect → Type 0
Solid g ps S = (p : ℕ) → Clear g ps S p → (S.along.to + g ≤ p) ⊎ (p ≤ S.along.from)
