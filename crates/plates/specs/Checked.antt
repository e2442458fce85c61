-- What is printed for a plate text.
use Rattle.std.specs.Prelude.{◌≡◌, ℕ, Bool, true, false, ◌⊎◌, List, ◌++◌, Ok, Err, codes, decimal, Result}
use Rattle.layout.specs.Refusals.{code_of, Accepted, RefusedBy}
use Rattle.layout.specs.declared.refusal.Refusal.{Refusal}
use Rattle.layout.specs.declared.refusal.Refusal.TheVariants.{Text}
use Rattle.inspection.specs.Verdicts.{Plate, number_of, InspectCause, Finding}
use Rattle.inspection.specs.declared.verdict.Verdict.{Verdict}
use Rattle.text.specs.Bad.{bad_line}
use Rattle.plates.specs.declared.plate.Setting.{Setting}
use Rattle.plates.specs.declared.plate.KindEntry.{KindEntry}
use Rattle.plates.specs.declared.plate.RowEntry.{RowEntry}
use Rattle.plates.specs.Texts.{ReadAs, BadLine}
use Rattle.plates.specs.Fits.{fitted}

-- `verdict V row R` and byte 10
abbrev pub verdict_line : ℕ → ℕ → List ℕ
verdict_line v r = codes "verdict " ++ (decimal v ++ (codes " row " ++ (decimal r ++ codes "\n")))

-- `refused C` and byte 10
abbrev pub refused_line : ℕ → List ℕ
refused_line c = codes "refused " ++ (decimal c ++ codes "\n")

-- the line of what an inspection answered; a verdict is accepted, whichever it is
abbrev pub Told : Result (Verdict × ℕ) Refusal → List ℕ → Bool → Type 0
Told (Ok f) bytes accepted = (bytes ≡ verdict_line (number_of f.0) f.1) × (accepted ≡ true)
Told (Err e) bytes accepted = (bytes ≡ refused_line (code_of e)) × (accepted ≡ false)

-- the plate is inspected: its verdict and row are printed
pub record Inspected (p : Plate) (bytes : List ℕ) : Type 0 where
  pub verdict : ℕ
  pub row : ℕ
  pub lawful : Accepted (InspectCause p)
  pub finding : Finding p verdict row
  pub printed : bytes ≡ verdict_line verdict row

-- the inspection of the plate is refused: the refusal is printed
pub record Refused (p : Plate) (bytes : List ℕ) : Type 0 where
  pub refusal : Refusal
  pub cause : RefusedBy (InspectCause p) refusal
  pub printed : bytes ≡ refused_line (code_of refusal)

-- all bytes that are printed for the plate, and whether it got a verdict
abbrev pub Outcome : Plate → List ℕ → Bool → Type 0
Outcome p bytes true = Inspected p bytes
Outcome p bytes false = Refused p bytes

-- the text is no plate text: its first bad line is printed, with column 0
pub record Unlike (t bytes : List ℕ) : Type 0 where
  pub line : ℕ
  pub bad : BadLine t line
  pub printed : bytes ≡ bad_line (code_of Text) line 0

-- the text is that of one plate, which is inspected
pub record Plated (t bytes : List ℕ) (accepted : Bool) : Type 0 where
  pub setting : Setting
  pub kinds : List KindEntry
  pub rows : List RowEntry
  pub read : ReadAs setting kinds rows t
  pub outcome : Outcome (fitted setting kinds rows) bytes accepted

-- all bytes that are printed for t, and whether the program ends well
abbrev pub Checked : List ℕ → List ℕ → Bool → Type 0
Checked t bytes accepted = (Unlike t bytes × (accepted ≡ false)) ⊎ Plated t bytes accepted
