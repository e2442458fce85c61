use Rattle.std.proofs.Common.{◌++◌, length, string_bytes, refl, ap, ◌∙◌, append_assoc}
use Rattle.orders.specs.Printed.{head_words, count_words}
use Rattle.orders.proofs.judge.push_order.Goals as goal

pub returns : goal.returns
returns c ok =
    let before = string_bytes c.args.out.now in
    let items = c.args.items.now in
    c.push_counts.ensures ok
    ∙ ap (λ z. z ++ count_words (length items) c.pieces_of_items.result) (c.in_ok-push_head.ensures refl)
    ∙ append_assoc before (head_words c.args.head) (count_words (length items) c.pieces_of_items.result)
    ∙ ap (λ n. before ++ (head_words c.args.head ++ count_words (length items) n)) c.pieces_of_items.ensures
