-- The place of a text's fault.
use Rattle.std.specs.Prelude.{◌≡◌, ℕ, List, take}
use Rattle.layout.specs.Refusals.{code_of}
use Rattle.layout.specs.declared.refusal.Refusal.TheVariants.{Text}
use Rattle.text.specs.declared.place.Place.{Place}
use Rattle.text.specs.Places.{line_after, column_after}
use Rattle.orders.specs.Orders.{OneFault}

-- a refusal in numbers, as it is printed: its code, and a line and a column of the text
pub record Bad : Type 0 where
  pub code : ℕ
  pub line : ℕ
  pub column : ℕ

-- bad text at the place p, in numbers
abbrev pub bad_text : Place → Bad
bad_text p = record { code = code_of Text; line = p.line; column = p.column }

-- b is what is said of the fault of t: the number of bad text, and the place of the one fault
pub record TellsFault (b : Bad) (t : List ℕ) : Type 0 where
  pub after : ℕ
  pub fault : OneFault t after
  pub code : b.code ≡ code_of Text
  pub line : b.line ≡ line_after (take after t)
  pub column : b.column ≡ column_after (take after t)
