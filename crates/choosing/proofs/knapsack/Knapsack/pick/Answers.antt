use Rattle.std.proofs.Common.{◌∙◌, arith}
use Rattle.choosing.proofs.Offers.{sound, takes_room, each_offerable}
use Rattle.choosing.proofs.Picking.{begins}
use Rattle.choosing.proofs.knapsack.Knapsack.pick.Goals as goal

pub first_reaching-requires : goal.first_reaching-requires
first_reaching-requires g c =
    let m = g.met.W.Worth in
    let k = c.args.self.now in
    each_offerable k.fair m.laws m.limits c.args.table.now c.args.left (λ n d h. c.requires.filled n d (omega arith)) (omega (arith, c.requires.room)) (omega (arith, c.requires.limit, k.limit))

pub returns : goal.returns
returns g c =
    let k = c.args.self.now in
    let goal = c.index-table-left.result in
    begins g.met.W.Worth.laws c.args.table.now k.candidates.now (sound k.fair) (takes_room k.fair) c.args.left c.requires.filled goal (c.index-table-left.is ∙ c.requires.filled c.args.left goal (omega arith)) c.first_reaching.result c.first_reaching.ensures
