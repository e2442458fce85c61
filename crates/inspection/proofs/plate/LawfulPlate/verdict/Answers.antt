use Rattle.std.proofs.Common.{refl, inl, inr}
use Rattle.inspection.specs.Soundness.{plate_in}
use Rattle.inspection.proofs.Judging.{found}
use Rattle.inspection.proofs.plate.LawfulPlate.verdict.Goals as goal

pub returns-in-Some : goal.returns-in-Some
returns-in-Some c = found (plate_in c.args.self.now) 21 c.in-Some.row (inr (inl (refl, c.in-Some.ensures)))
