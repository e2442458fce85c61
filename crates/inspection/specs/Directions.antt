-- Places as the functions of a stage see them: with the direction that its cuts divide first.
use Rattle.std.specs.Prelude.{◌≡◌, ℕ, ◌+◌, ◌^◌, ◌<◌, List, length as size, slice_index_or, Option, MatchOption}
use Rattle.layout.specs.declared.rect.Rect.{Rect}
use Rattle.layout.specs.Apart.{swapped, Inside, Pieces}
use Rattle.inspection.specs.declared.places.Direction.{Direction}
use Rattle.inspection.specs.declared.places.Direction.TheVariants.{Length, Width}

-- what stands past the end of a list of places
abbrev pub no_rect : Rect
no_rect = record { along = record { from = 0; to = 0 }; across = record { from = 0; to = 0 } }

-- a rectangle with the direction at hand first
abbrev pub seen : Direction → Rect → Rect
seen Length R = R
seen Width R = swapped R

-- the pieces at some places, seen so
abbrev pub placed : Direction → List Rect → Pieces
placed d places = record { count = size places; place = λ i. seen d (slice_index_or places i no_rect) }

-- what is found at a place: its piece, seen so, where it lies in the part R, and nothing where it does not
abbrev pub HeldIn : Direction → Rect → Rect → Option Rect → Type 0
HeldIn d R place found = MatchOption found (Inside (seen d place) R → ⊥) (λ Q. (Q ≡ seen d place) × Inside Q R)

-- a cut right after a piece ends within 32 bits, whichever direction it divides
abbrev pub RoomForCuts : ℕ → Pieces → Type 0
RoomForCuts g ps = (i : ℕ) → i < ps.count → ((ps.place i).along.to + g < 2 ^ 32) × ((ps.place i).across.to + g < 2 ^ 32)
