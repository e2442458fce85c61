use Rattle.std.proofs.Common.{vec_items, subst}
use Rattle.orders.specs.Replies.{Stopped}
use Rattle.orders.proofs.Whole.{not_lawful}
use Rattle.orders.proofs.Unique.{read_as}
use Rattle.orders.proofs.read.read_order.Goals as goal

pub unreachable-requires : goal.unreachable-requires
unreachable-requires c =
    not_lawful c.args.text.now _ (subst (λ z. Stopped z c.args.text.now) c.in-Err-Fault.field-0-is c.in-Err-Fault.ensures) c.in_default.ensures.0

pub returns-in-Ok : goal.returns-in-Ok
returns-in-Ok c = read_as c.args.text.now c.in-Ok.order.head (vec_items c.in-Ok.order.items) c.in_default.ensures.1 c.in-Ok.ensures
