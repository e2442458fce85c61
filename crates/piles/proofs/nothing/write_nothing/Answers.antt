use Rattle.std.proofs.Common.{◌-◌, ◌++◌, drop, replicate, ap, ◌∙◌}
use Rattle.std.proofs.lemmas.List.{length-take-le}
use Rattle.layout.specs.Pieces.{blank}
use Rattle.piles.proofs.nothing.write_nothing.Goals as goal

pub returns : goal.returns
returns c =
    let old = c.args.rows.now in
    ap (λ rs. rs ++ drop 4096 old) (c.blank_from.ensures ∙ ap (λ n. replicate (n - 0) blank) (length-take-le 4096 old c.requires))
