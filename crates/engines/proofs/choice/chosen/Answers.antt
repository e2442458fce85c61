use Rattle.std.proofs.Common.{take}
use Rattle.std.proofs.lemmas.List.Elements.{All-from_recursion}
use Rattle.engines.specs.Writing.{Known}
use Rattle.engines.proofs.Lists.{known_all}
use Rattle.engines.proofs.choice.chosen.Goals as goal

pub at_positions-requires-clause-known : goal.at_positions-requires-clause-known
at_positions-requires-clause-known c =
    let is = rw c.unwrap-selection.ensures at c.choose.ensures.answered in
    let order = take c.unwrap-selection.result.count c.choose.new.order in
    All-from_recursion (Known c.args.numbers.now) order (known_all c.args.candidates.now c.args.numbers.now order c.requires.each is.1.is_first.feasible.known)
