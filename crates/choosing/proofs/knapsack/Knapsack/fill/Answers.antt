use Rattle.std.proofs.Common.{◌∙◌, arith}
use Rattle.std.proofs.lemmas.Grind.{common_steps}
use Rattle.choosing.proofs.Answering.{greatest_worth_lem}
use Rattle.choosing.proofs.Offers.{sound}
use Rattle.choosing.proofs.knapsack.Knapsack.fill.Goals as goal
use Rattle.choosing.proofs.knapsack.Knapsack.fill.Goals.{else-loop-capacity-test, then-loop-capacity-test+else-capacity-capacity-end}

pub returns-clause-tabled : goal.returns-clause-tabled
returns-clause-tabled g c =
    let so_far = c.loop-capacity.invariant in
    elim c.loop-capacity-test.branch [
      | else-loop-capacity-test w ↦ rw w.table-is (record { filled = λ k d h. so_far.filled k d (omega arith); beyond = so_far.beyond })
      | then-loop-capacity-test+else-capacity-capacity-end w ↦ rw w.table-is (record { filled = λ k d h. grind (arith, common_steps); beyond = grind (arith, common_steps) })
    ]

pub returns-clause-greatest : goal.returns-clause-greatest
returns-clause-greatest g c =
    let k = c.args.self.now in
    greatest_worth_lem g.met.W.Worth.laws k.candidates.now (sound k.fair) k.capacity c.index-table-self.result
    (c.index-table-self.is ∙ (returns-clause-tabled g c).filled k.capacity c.index-table-self.result (omega arith))
