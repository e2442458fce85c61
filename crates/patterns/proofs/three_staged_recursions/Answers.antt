use Rattle.patterns.proofs.NamedRecursions.{three_staged_recursions_lem}
use Rattle.patterns.proofs.three_staged_recursions.Goals as goal

pub returns : goal.returns
returns c = three_staged_recursions_lem
