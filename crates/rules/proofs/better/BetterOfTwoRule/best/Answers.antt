use Rattle.std.proofs.Common.{arith}
use Rattle.layout.specs.Models.{model}
use Rattle.rules.specs.Answering.{admitted_asked, asked_more, named_few, wrote_better}
use Rattle.rules.proofs.better.BetterOfTwoRule.best.Goals as goal

pub returns-clause-rows : goal.returns-clause-rows
returns-clause-rows g c =
    let s = c.args.self.now in
    let asked = admitted_asked c.args.task.now c.in_ok-admit.ensures.admitted c.reach.ensures in
    let few = named_few (model c.args.task.now) (g.met.F.Rule.lawful s.first) (asked_more (omega arith) asked) in
    wrote_better (g.F.Rule.named s.first) (g.S.Rule.named s.second) few (omega arith) (omega (arith, c.ask_admitted-second.auto.rows)) c.ask_admitted-first.ensures c.ask_admitted-second.ensures c.keep_better.ensures.answer c.keep_better.ensures.rows
