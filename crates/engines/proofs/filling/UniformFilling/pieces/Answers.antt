use Rattle.std.proofs.Common.{◌/◌, take, replicate, ap, ◌∙◌}
use Rattle.std.proofs.lemmas.List.{take-replicate}
use Rattle.engines.proofs.Fairness.{few_pieces}
use Rattle.engines.proofs.filling.UniformFilling.pieces.Goals as goal

pub returns : goal.returns
returns c =
    let n = c.args.numbers.now in
    let q = c.args.q in
    c.truncate.ensures.items ∙ ap (take c.from.result) c.from_array_in-pieces.ensures.items ∙ ap (λ k. take k (replicate 64 q)) c.from.ensures ∙ take-replicate (n.length / q.along) 64 q (few_pieces n.length n.width q n.stock.along_most c.requires)
