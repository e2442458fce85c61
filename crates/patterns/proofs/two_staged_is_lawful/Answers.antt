use Rattle.patterns.proofs.NamedLaws.{two_staged_laws}
use Rattle.patterns.proofs.two_staged_is_lawful.Goals as goal

pub returns : goal.returns
returns c = two_staged_laws
