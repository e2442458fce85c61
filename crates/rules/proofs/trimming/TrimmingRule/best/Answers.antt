use Rattle.std.proofs.Common.{ap, subst, ◌∙◌}
use Rattle.layout.specs.Models.{model}
use Rattle.layout.specs.Tasks.{worth}
use Rattle.layout.specs.Variants.{trimmed_model}
use Rattle.rules.specs.Answers.{Wrote}
use Rattle.rules.specs.Sums.{pushed_row}
use Rattle.rules.specs.Answering.{admitted_asked, asked_below, wrote_changed}
use Rattle.rules.specs.TrimmingLaws.{asked_trimmed, pushed_is_moved, worth_trimmed}
use Rattle.rules.proofs.trimming.TrimmingRule.best.Goals as goal

pub ask_admitted-best-requires : goal.ask_admitted-best-requires
ask_admitted-best-requires g c =
    let t = c.args.task.now in
    asked_below t c.in_ok-admit.ensures.admitted c.reach.ensures c.trimmed.ensures (asked_trimmed c.args.self.now.trim (model t))

pub returns-clause-rows : goal.returns-clause-rows
returns-clause-rows g c =
    let s = c.args.self.now in
    let m = model c.args.task.now in
    let low = trimmed_model s.trim m in
    let named = g.R.Rule.named s.below in
    let laws = g.met.R.Rule.lawful s.below in
    let asked = asked_trimmed s.trim m (admitted_asked c.args.task.now c.in_ok-admit.ensures.admitted c.reach.ensures) in
    let moved = pushed_is_moved s.trim low (named low) s.small asked.limits (laws.proper low asked (named low) (laws.member low asked)).placed in
    subst (λ p. Wrote m p c.args.rows.now c.change_first.new.rows c.ask_admitted-best.result) moved
    (wrote_changed (pushed_row s.trim) named c.trimmed.ensures c.ask_admitted-best.ensures c.from.ensures c.change_first.ensures (ap (worth m) moved ∙ worth_trimmed s.trim m (named low)))
