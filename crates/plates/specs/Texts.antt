-- Plate texts, and the first line of a text that is not as it must be.
use Rattle.std.specs.Prelude.{◌≡◌, ℕ, ◌+◌, ◌⊎◌, List, [], ◌++◌, length, All}
use Rattle.text.specs.Fields.{lines}
use Rattle.plates.specs.declared.plate.Setting.{Setting}
use Rattle.plates.specs.declared.plate.KindEntry.{KindEntry}
use Rattle.plates.specs.declared.plate.RowEntry.{RowEntry}
use Rattle.plates.specs.Lines.{line_of_plate, line_of_kind, line_of_row, ShortSetting, ShortKind, ShortRow}

-- one kind line after another
abbrev pub kind_lines : List KindEntry → List ℕ
kind_lines ks = lines line_of_kind ks

-- one row line after another
abbrev pub row_lines : List RowEntry → List ℕ
row_lines rs = lines line_of_row rs

-- the one text of a plate: its first line, then its kinds, then its rows
abbrev pub text_of : Setting → List KindEntry → List RowEntry → List ℕ
text_of s ks rs = line_of_plate s ++ (kind_lines ks ++ row_lines rs)

-- t is the text of a plate whose numbers have at most seven digits
pub record TextOf (s : Setting) (ks : List KindEntry) (rs : List RowEntry) (t : List ℕ) : Type 0 where
  pub short_setting : ShortSetting s
  pub short_kinds : All ShortKind ks
  pub short_rows : All ShortRow rs
  pub text : t ≡ text_of s ks rs

-- t is the text of some plate
abbrev pub Lawful : List ℕ → Type 0
Lawful t = (s : Setting) × (ks : List KindEntry) × (rs : List RowEntry) × TextOf s ks rs t

-- t is the text of this plate and of no other
pub record ReadAs (s : Setting) (ks : List KindEntry) (rs : List RowEntry) (t : List ℕ) : Type 0 where
  pub says : TextOf s ks rs t
  pub only : (q : Setting) (ls : List KindEntry) (ps : List RowEntry) → TextOf q ls ps t → (q ≡ s) × (ls ≡ ks) × (ps ≡ rs)

-- the front of a text consists of n whole lines: it is empty, or a plate text
abbrev pub WholeLines : List ℕ → ℕ → Type 0
WholeLines front n =
    ((front ≡ []) × (n ≡ 0)) ⊎ ((s : Setting) × (ks : List KindEntry) × (rs : List RowEntry) × TextOf s ks rs front × (n ≡ 1 + length ks + length rs))

-- t is no plate text, and after n whole lines that could begin one comes a line that could not follow them
pub record StopsAfter (t : List ℕ) (n : ℕ) : Type 0 where
  pub front : List ℕ
  pub rest : List ℕ
  pub parts : t ≡ front ++ rest
  pub whole : WholeLines front n
  pub longest : (more left : List ℕ) → rest ≡ more ++ left → Lawful (front ++ more) → more ≡ []
  pub unlawful : Lawful t → ⊥

-- the line a, counted from 1, is the first of t that is not as it must be, and no other is
pub record BadLine (t : List ℕ) (a : ℕ) : Type 0 where
  pub stops : ℕ
  pub after : StopsAfter t stops
  pub only : (n : ℕ) → StopsAfter t n → n ≡ stops
  pub line : a ≡ stops + 1
