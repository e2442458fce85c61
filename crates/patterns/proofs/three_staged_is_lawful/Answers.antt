use Rattle.patterns.proofs.NamedLaws.{three_staged_laws}
use Rattle.patterns.proofs.three_staged_is_lawful.Goals as goal

pub returns : goal.returns
returns c = three_staged_laws
