-- What the functions of inspection find on their way: sound rows and their places.
use Rattle.std.specs.Prelude.{◌≡◌, ℕ, ◌<◌, ◌≤◌, true, ◌⊎◌, List, length as size, slice_index_or}
use Rattle.layout.specs.declared.panel.Panel.{Panel}
use Rattle.layout.specs.declared.row.Row.{Row}
use Rattle.layout.specs.declared.rect.Rect.{Rect}
use Rattle.layout.specs.Pieces.{blank, panel_of, end, top}
use Rattle.layout.specs.Places.{place_of}
use Rattle.inspection.specs.declared.plate.LawfulPlate.{LawfulPlate}
use Rattle.inspection.specs.Directions.{no_rect}
use Rattle.inspection.specs.Verdicts.{Plate, plate_of}

-- the plate that a plate within the limits is
abbrev pub plate_in : LawfulPlate → Plate
plate_in p = plate_of p.length p.width p.saw p.stages p.kinds.now p.rows.now

-- the row is not at fault
pub record Sound (length width : ℕ) (kinds : List Panel) (r : Row) : Type 0 where
  pub known : r.kind < size kinds
  pub turn : (r.turned ≡ 0) ⊎ ((r.turned ≡ 1) × ((panel_of kinds r).may_turn ≡ true))
  pub along : end kinds r ≤ length
  pub across : top kinds r ≤ width

-- the first n rows of the plate are not at fault
abbrev pub SoundSo : Plate → ℕ → Type 0
SoundSo p n = (i : ℕ) → i < n → Sound p.length p.width p.kinds (slice_index_or p.rows i blank)

-- no row of the plate is at fault
abbrev pub AllSound : Plate → Type 0
AllSound p = SoundSo p (size p.rows)

-- the table has the places of the first n rows of the plate
abbrev pub HasPlaces : Plate → List Rect → ℕ → Type 0
HasPlaces p table n = (i : ℕ) → i < n → slice_index_or table i no_rect ≡ place_of p.kinds (slice_index_or p.rows i blank)
