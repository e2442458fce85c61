use Rattle.patterns.proofs.Worked.{worked}
use Rattle.patterns.proofs.worked_cases.Goals as goal

pub returns : goal.returns
returns c = worked
