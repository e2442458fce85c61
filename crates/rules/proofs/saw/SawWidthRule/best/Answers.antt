use Rattle.std.proofs.Common.{◌≡◌, ℕ, min, Option, Some, MatchOption, ap, ◌∙◌, arith}
use Rattle.std.proofs.lemmas.Bool.{some_since}
use Rattle.std.proofs.lemmas.Option.{MatchOption-at_some}
use Rattle.layout.specs.declared.task.Task.{Task}
use Rattle.layout.specs.Models.{model}
use Rattle.layout.specs.Tasks.{Model}
use Rattle.layout.specs.Variants.{widened_model}
use Rattle.rules.specs.Answering.{admitted_asked, asked_below, wrote_above}
use Rattle.rules.specs.SawLaws.{asked_widened, worth_widened}
use Rattle.rules.proofs.saw.SawWidthRule.best.Goals as goal

-- the task asked below is the one widened by the width of the layer
wider_is : {width : ℕ} (P : Type 0) (w : ℕ) (m : Model) (o : Option Task) (t : Task) → o ≡ Some t → MatchOption o P (λ x. model x ≡ widened_model w m) → w ≡ width → model t ≡ widened_model width m
wider_is P w m o t is made same = MatchOption-at_some P (λ x. model x ≡ widened_model w m) t is made ∙ ap (λ n. widened_model n m) same

pub unwrap-wider-requires : goal.unwrap-wider-requires
unwrap-wider-requires g c =
    let t = c.args.task.now in
    let width = c.added.result in
    let far = (g.met.R.Rule.lawful c.args.self.now.below).far in
    let asked = asked_widened width (model t) (omega (arith, c.added.ensures)) far (admitted_asked t c.in_ok-admit.ensures.admitted (omega (arith, c.reach.ensures, c.added.ensures))) in
    some_since c.widened.result _ (λ x. model x ≡ widened_model width (model t)) c.widened.ensures (λ none. none asked.limits)

pub ask_admitted-requires : goal.ask_admitted-requires
ask_admitted-requires g c =
    let t = c.args.task.now in
    let far = (g.met.R.Rule.lawful c.args.self.now.below).far in
    asked_below t c.in_ok-admit.ensures.admitted c.reach.ensures (wider_is _ c.added.result (model t) c.widened.result c.unwrap-wider.result c.unwrap-wider.ensures c.widened.ensures c.added.ensures) (asked_widened _ (model t) (omega arith) far)

pub returns-clause-rows : goal.returns-clause-rows
returns-clause-rows g c =
    let s = c.args.self.now in
    let m = model c.args.task.now in
    let width = min s.width (g.R.Rule.reach s.below) in
    let named = g.R.Rule.named s.below in
    wrote_above named (wider_is _ c.added.result m c.widened.result c.unwrap-wider.result c.unwrap-wider.ensures c.widened.ensures c.added.ensures) c.ask_admitted.ensures (worth_widened width m (named (widened_model width m)))
