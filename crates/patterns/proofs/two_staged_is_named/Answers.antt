use Rattle.patterns.proofs.NamedPatterns.{two_staged_is_named_lem}
use Rattle.patterns.proofs.two_staged_is_named.Goals as goal

pub returns : goal.returns
returns c = two_staged_is_named_lem
