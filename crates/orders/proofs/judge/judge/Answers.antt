use Rattle.std.proofs.Common.{◌^◌, ◌<◌, vec_items, sym, subst}
use Rattle.orders.specs.Printed.{pieces_of}
use Rattle.orders.proofs.Sums.{few_pieces}
use Rattle.orders.proofs.judge.judge.Goals as goal

pub push_order-requires : goal.push_order-requires
push_order-requires c =
    let o = c.in-Ok.order in
    let read = c.in-Ok.ensures in
    subst (λ is. pieces_of is < 2 ^ 64) (sym c.as_slice.ensures.value) (few_pieces c.args.text.now o.head (vec_items o.items) read.says read.fitting)
