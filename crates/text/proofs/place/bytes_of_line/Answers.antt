use Rattle.std.proofs.Common.{◌+◌, not, reverse, ap, ◌∙◌, rules, tests}
use Rattle.std.proofs.lemmas.Iterator.Adapters.{YieldsList-from_rev_slice}
use Rattle.std.proofs.lemmas.Iterator.Consumers.{YieldsList-at, count_from_yields_List}
use Rattle.std.proofs.lemmas.Iterator.Search.{YieldsList-from_take_while}
use Rattle.std.proofs.lemmas.List.Folds.{length-prefix_len}
use Rattle.text.specs.Places.{ends_line}
use Rattle.text.proofs.place.bytes_of_line.Goals as goal

pub returns-clause-column : goal.returns-clause-column
returns-clause-column c =
    ap (λ n. 1 + n) (count_from_yields_List c.take_while.result _ c.count.ensures.ran
    (YieldsList-from_take_while _ (λ b. not (ends_line b)) (YieldsList-at c.take_while.ensures.source (YieldsList-from_rev_slice c.args.before.now cc)) c.take_while.ensures.closure c.take_while.ensures.done
    (λ x b q k. search (rules, tests)))
    ∙ length-prefix_len (λ b. not (ends_line b)) (reverse c.args.before.now))
