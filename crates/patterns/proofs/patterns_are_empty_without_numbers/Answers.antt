use Rattle.patterns.proofs.NamedPatterns.{empty_without_numbers}
use Rattle.patterns.proofs.patterns_are_empty_without_numbers.Goals as goal

pub returns : goal.returns
returns c = empty_without_numbers
