use Rattle.patterns.proofs.NamedRecursions.{two_staged_recursions_lem}
use Rattle.patterns.proofs.two_staged_recursions.Goals as goal

pub returns : goal.returns
returns c = two_staged_recursions_lem
