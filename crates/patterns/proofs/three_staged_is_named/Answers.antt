use Rattle.patterns.proofs.NamedPatterns.{three_staged_is_named_lem}
use Rattle.patterns.proofs.three_staged_is_named.Goals as goal

pub returns : goal.returns
returns c = three_staged_is_named_lem
