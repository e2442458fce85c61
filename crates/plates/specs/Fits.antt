-- The plate that a plate text means.
use Rattle.std.specs.Prelude.{ℕ, min, Bool, true, false, List, map}
use Rattle.layout.specs.declared.panel.Panel.{Panel}
use Rattle.layout.specs.declared.row.Row.{Row}
use Rattle.inspection.specs.Verdicts.{Plate, plate_of}
use Rattle.plates.specs.declared.plate.Setting.{Setting}
use Rattle.plates.specs.declared.plate.KindEntry.{KindEntry}
use Rattle.plates.specs.declared.plate.RowEntry.{RowEntry}

-- a letter as a number of a row: 1 for turned or spare, else 0
abbrev pub flag : Bool → ℕ
flag true = 1
flag false = 0

-- a number in a field of 16 bits: one that is too large is the largest, which no limit allows
abbrev pub wide_field : ℕ → ℕ
wide_field n = min n 65535

-- and in a field of 8 bits
abbrev pub narrow_field : ℕ → ℕ
narrow_field n = min n 255

-- the panel of a kind line
abbrev pub fitted_panel : KindEntry → Panel
fitted_panel k = record { length = wide_field k.length; width = wide_field k.width; may_turn = k.may_turn }

-- the row of a row line
abbrev pub fitted_row : RowEntry → Row
fitted_row r = record {
  kind = narrow_field r.kind;
  turned = flag r.turned;
  segment = narrow_field r.segment;
  strip = narrow_field r.strip;
  spare = flag r.spare;
  x = wide_field r.x;
  y = wide_field r.y;
}

-- the plate of a text
abbrev pub fitted : Setting → List KindEntry → List RowEntry → Plate
fitted s ks rs = plate_of (wide_field s.length) (wide_field s.width) (narrow_field s.saw) (narrow_field s.stages) (map fitted_panel ks) (map fitted_row rs)
