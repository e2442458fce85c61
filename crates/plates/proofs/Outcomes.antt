-- From what an inspection answered to what is printed.
use Rattle.std.proofs.Common.{ℕ, Bool, List, IfOk, Ok, Err, Result, sym, subst}
use Rattle.layout.specs.Refusals.{Answered}
use Rattle.layout.specs.declared.refusal.Refusal.{Refusal}
use Rattle.inspection.specs.Verdicts.{Plate, number_of, InspectCause, Finding}
use Rattle.inspection.specs.declared.verdict.Verdict.{Verdict}
use Rattle.plates.specs.Checked.{Told, Outcome}

pub outcome : (p : Plate) (answer : Result (Verdict × ℕ) Refusal) (bytes : List ℕ) (accepted : Bool) → Answered (InspectCause p) answer → IfOk answer (λ f. Finding p (number_of f.0) f.1)
    → Told answer bytes accepted → Outcome p bytes accepted
outcome p (Ok f) bytes accepted answered finding (e, a) =
    subst (Outcome p bytes) (sym a) (record { verdict = number_of f.0; row = f.1; lawful = answered; finding = finding; printed = e })
outcome p (Err r) bytes accepted answered finding (e, a) = subst (Outcome p bytes) (sym a) (record { refusal = r; cause = answered; printed = e })
