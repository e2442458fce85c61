-- The sum of the ordered numbers.
use Rattle.std.proofs.Common.{ℕ, ◌^◌, ◌<◌, ◌≤◌, List, length, All, ap, arith, length-append}
use Rattle.std.proofs.lemmas.List.Elements.{All-weaker}
use Rattle.std.proofs.lemmas.List.Sums.{sum_by-le}
use Rattle.text.proofs.Many.{lines_long}
use Rattle.orders.specs.declared.order.Head.{Head}
use Rattle.orders.specs.declared.order.Item.{Item}
use Rattle.orders.specs.Lines.{line_of_item, ShortItem}
use Rattle.orders.specs.Orders.{TextOf, Fitting}
use Rattle.orders.specs.Printed.{pieces_of}
use Rattle.orders.proofs.Whole.{item_some}

-- each item has bytes of its own, so what is ordered in all stays far below 2^64
pub few_pieces : (t : List ℕ) (h : Head) (is : List Item) → TextOf h is t → Fitting t → pieces_of is < 2 ^ 64
few_pieces t h is says fits =
    let few : length is ≤ 65536 = omega (arith, fits, lines_long line_of_item item_some is, simp length-append at (ap length says.text)) in
    let each : All (λ (i : Item). i.ordered ≤ 10 ^ 7) is = All-weaker ShortItem (λ (i : Item). i.ordered ≤ 10 ^ 7) (λ i s. omega (arith, s.ordered)) is says.short_items in
    omega (arith, sum_by-le (λ (i : Item). i.ordered) (10 ^ 7) is each, few)
