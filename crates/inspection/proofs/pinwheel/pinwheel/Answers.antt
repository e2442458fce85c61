use Rattle.inspection.proofs.Wheel.{never_apart}
use Rattle.inspection.proofs.pinwheel.pinwheel.Goals as goal

pub returns-clause-never : goal.returns-clause-never
returns-clause-never c = never_apart
