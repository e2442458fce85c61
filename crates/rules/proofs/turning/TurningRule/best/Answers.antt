use Rattle.layout.specs.Models.{model}
use Rattle.layout.specs.Variants.{exchanged_model}
use Rattle.rules.specs.Layers.{exchanged_row}
use Rattle.rules.specs.Answering.{asked_below, wrote_changed}
use Rattle.rules.specs.TurningLaws.{asked_exchanged, worth_exchanged}
use Rattle.rules.proofs.turning.TurningRule.best.Goals as goal

pub ask_admitted-best-requires : goal.ask_admitted-best-requires
ask_admitted-best-requires g c =
    let t = c.args.task.now in
    asked_below t c.in_ok-admit.ensures.admitted c.reach.ensures c.exchanged.ensures (asked_exchanged (model t))

pub returns-clause-rows : goal.returns-clause-rows
returns-clause-rows g c =
    let m = model c.args.task.now in
    let named = g.R.Rule.named c.args.self.now.below in
    wrote_changed exchanged_row named c.exchanged.ensures c.ask_admitted-best.ensures c.from.ensures c.change_first.ensures (worth_exchanged m (named (exchanged_model m)))
