use Rattle.std.proofs.Common.{List, length}
use Rattle.text.proofs.Many.{Ahead}
use Rattle.orders.specs.declared.order.Item.{Item}
use Rattle.orders.specs.Lines.{line_of_item, ShortItem}
use Rattle.orders.proofs.check.read_through.Given as goal

-- whole item lines, and then the rest
abbrev pub invariant-loop-rest : goal.invariant-loop-rest
invariant-loop-rest l = (is : List Item) × Ahead line_of_item ShortItem l.initial.rest is l.rest

abbrev pub decreases-loop-rest : goal.decreases-loop-rest
decreases-loop-rest l = length l.rest
