-- How the lines of a plate text begin: none is empty, a kind line begins with `k`, a row line with a digit.
use Rattle.std.proofs.Common.{◌≡◌, ℕ, ◌<◌, List, ◌++◌, length, decimal, sym, ◌∙◌, append_assoc, arith, length-append}
use Rattle.text.proofs.Numerals.{decimal_front}
use Rattle.plates.specs.declared.plate.KindEntry.{KindEntry}
use Rattle.plates.specs.declared.plate.RowEntry.{RowEntry}
use Rattle.plates.specs.Lines.{line_of_kind, line_of_row, ShortRow}
use Rattle.plates.specs.Replies.{Kindly}

pub kind_some : (k : KindEntry) → 0 < length (line_of_kind k)
kind_some k = omega arith

pub row_some : (r : RowEntry) → 0 < length (line_of_row r)
row_some r = simp length-append (omega arith)

pub kind_kindly : (k : KindEntry) (u t : List ℕ) → t ≡ line_of_kind k ++ u → Kindly t
kind_kindly k u t e = (_, e)

pub row_not_kindly : (r : RowEntry) (u t : List ℕ) → ShortRow r → t ≡ line_of_row r ++ u → Kindly t → ⊥
row_not_kindly r u t s e (more, f) =
    let d = decimal_front r.kind s.kind 107 more _ (sym f ∙ e ∙ append_assoc (decimal r.kind) _ u) in omega (arith, d.0, d.1)
