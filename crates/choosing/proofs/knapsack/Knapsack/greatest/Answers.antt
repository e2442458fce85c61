use Rattle.std.proofs.Common.{◌∙◌, arith}
use Rattle.choosing.proofs.Filling.{largest_is_most}
use Rattle.choosing.proofs.Offers.{sound, each_offerable}
use Rattle.choosing.proofs.knapsack.Knapsack.greatest.Goals as goal

pub largest_offer-requires : goal.largest_offer-requires
largest_offer-requires g c =
    let m = g.met.W.Worth in
    let k = c.args.self.now in
    each_offerable k.fair m.laws m.limits c.args.table.now c.args.capacity c.requires.filled c.requires.room (omega (arith, c.requires.limit, k.limit))

pub returns : goal.returns
returns g c =
    let k = c.args.self.now in
    c.largest_offer.ensures ∙ largest_is_most g.met.W.Worth.laws c.args.table.now k.candidates.now (sound k.fair) c.args.capacity c.requires.filled
