use Rattle.inspection.specs.Soundness.{plate_in, SoundSo}
use Rattle.inspection.proofs.plate.LawfulPlate.first_faulty.Given as goal

abbrev pub invariant-loop-i : goal.invariant-loop-i
invariant-loop-i l = SoundSo (plate_in l.self) l.i
