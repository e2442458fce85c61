-- What is printed for a text.
use Rattle.std.specs.Prelude.{◌≡◌, ℕ, Bool, true, false, List}
use Rattle.text.specs.Bad.{bad_line}
use Rattle.orders.specs.declared.order.Head.{Head}
use Rattle.orders.specs.declared.order.Item.{Item}
use Rattle.orders.specs.Orders.{ReadAs}
use Rattle.orders.specs.Places.{Bad, TellsFault}
use Rattle.orders.specs.Printed.{order_line}

-- the text is that of one order and not too long: the order is restated
pub record Restated (t bytes : List ℕ) : Type 0 where
  pub head : Head
  pub items : List Item
  pub read : ReadAs head items t
  pub printed : bytes ≡ order_line head items

-- the text is at fault: the line of its fault
pub record Rejected (t bytes : List ℕ) : Type 0 where
  pub bad : Bad
  pub at : TellsFault bad t
  pub printed : bytes ≡ bad_line bad.code bad.line bad.column

-- all bytes that are printed for t, and whether it is accepted
abbrev pub Judged : List ℕ → List ℕ → Bool → Type 0
Judged t bytes true = Restated t bytes
Judged t bytes false = Rejected t bytes
