-- The lines of a plate text.
use Rattle.std.specs.Prelude.{◌≡◌, ℕ, List, [], ◌∷◌, codes, decimal}
use Rattle.text.specs.Fields.{line, letter, SevenDigits}
use Rattle.text.specs.declared.fields.Letters.TheVariants.{Turn, Spare}
use Rattle.plates.specs.declared.plate.Setting.{Setting}
use Rattle.plates.specs.declared.plate.KindEntry.{KindEntry}
use Rattle.plates.specs.declared.plate.RowEntry.{RowEntry}

-- `plate`, length, width, saw width, stages
abbrev pub line_of_plate : Setting → List ℕ
line_of_plate s = line (codes "plate") (decimal s.length ∷ decimal s.width ∷ decimal s.saw ∷ decimal s.stages ∷ [])

-- `kind`, length, width, `n` or `t`
abbrev pub line_of_kind : KindEntry → List ℕ
line_of_kind k = line (codes "kind") (decimal k.length ∷ decimal k.width ∷ (letter Turn k.may_turn ∷ []) ∷ [])

-- kind, `n` or `t`, segment, strip, `k` or `s`, x, y
abbrev pub line_of_row : RowEntry → List ℕ
line_of_row r =
    line (decimal r.kind) ((letter Turn r.turned ∷ []) ∷ decimal r.segment ∷ decimal r.strip ∷ (letter Spare r.spare ∷ []) ∷ decimal r.x ∷ decimal r.y ∷ [])

-- each number of the first line has at most seven digits
pub record ShortSetting (s : Setting) : Type 0 where
  pub length : SevenDigits s.length
  pub width : SevenDigits s.width
  pub saw : SevenDigits s.saw
  pub stages : SevenDigits s.stages

-- and each number of a kind line
pub record ShortKind (k : KindEntry) : Type 0 where
  pub length : SevenDigits k.length
  pub width : SevenDigits k.width

-- and each number of a row line
pub record ShortRow (r : RowEntry) : Type 0 where
  pub kind : SevenDigits r.kind
  pub segment : SevenDigits r.segment
  pub strip : SevenDigits r.strip
  pub x : SevenDigits r.x
  pub y : SevenDigits r.y

-- the texts that are a first line
abbrev pub PlateLine : List ℕ → Type 0
PlateLine t = (s : Setting) × ShortSetting s × (t ≡ line_of_plate s)

-- the texts that are a kind line
abbrev pub KindLine : List ℕ → Type 0
KindLine t = (k : KindEntry) × ShortKind k × (t ≡ line_of_kind k)

-- the texts that are a row line
abbrev pub RowLine : List ℕ → Type 0
RowLine t = (r : RowEntry) × ShortRow r × (t ≡ line_of_row r)
