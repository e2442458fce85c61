-- The number of each verdict, and which verdict a plate gets.
use Rattle.std.specs.Prelude.{◌≡◌, ℕ, ◌<◌, ◌≤◌, false, ◌⊎◌, List, length as size, slice_index_or, Any}
use Rattle.layout.specs.declared.panel.Panel.{Panel}
use Rattle.layout.specs.declared.row.Row.{Row}
use Rattle.layout.specs.Limits.{Between, Outside}
use Rattle.layout.specs.Pieces.{blank, panel_of, end, top}
use Rattle.layout.specs.Apart.{Exact, ComesApart, plate}
use Rattle.layout.specs.Places.{pieces}
use Rattle.inspection.specs.declared.verdict.Verdict.{Verdict}
use Rattle.inspection.specs.declared.verdict.Verdict.TheVariants.{Accepted, FaultyRow, NotApart}

-- the number of each verdict
abbrev pub number_of : Verdict → ℕ
number_of Accepted = 0
number_of FaultyRow = 21
number_of NotApart = 22

-- what is inspected: the sides of the plate, the saw width, the stages, the kinds by their number, and the rows
pub record Plate : Type 0 where
  pub length : ℕ
  pub width : ℕ
  pub saw : ℕ
  pub stages : ℕ
  pub kinds : List Panel
  pub rows : List Row

-- what a caller gives to inspect
abbrev pub plate_of : ℕ → ℕ → ℕ → ℕ → List Panel → List Row → Plate
plate_of length width saw stages kinds rows = record { length = length; width = width; saw = saw; stages = stages; kinds = kinds; rows = rows }

-- both sides of the kind are 50 to 3,000
abbrev pub LawfulPanel : Panel → Type 0
LawfulPanel k = Between 50 3000 k.length × Between 50 3000 k.width

-- a side of the kind is below 50 or above 3,000
abbrev pub BadPanel : Panel → Type 0
BadPanel k = Outside 50 3000 k.length ⊎ Outside 50 3000 k.width

-- why a plate is not inspected: 1 a side of the plate or of a kind outside 50 to 3,000, 5 more than 4,096 rows, 6 a saw width above 20 or stages outside 1 to 7, 11 more than 32 kinds
abbrev pub InspectCause : Plate → ℕ → Type 0
InspectCause p c =
    ((c ≡ 1) × (Outside 50 3000 p.length ⊎ Outside 50 3000 p.width ⊎ Any BadPanel p.kinds))
    ⊎ ((c ≡ 5) × (4096 < size p.rows))
    ⊎ ((c ≡ 6) × ((20 < p.saw) ⊎ Outside 1 7 p.stages))
    ⊎ ((c ≡ 11) × (32 < size p.kinds))

-- the row's turn is forbidden: turned above 1 always is, and turned 1 where the kind may not turn
abbrev pub ForbiddenTurn : List Panel → Row → Type 0
ForbiddenTurn kinds r = (1 < r.turned) ⊎ ((r.turned ≡ 1) × ((panel_of kinds r).may_turn ≡ false))

-- the row is at fault: its kind is unknown, its turn is forbidden, or its piece passes the plate's length or its width
abbrev pub Faulty : ℕ → ℕ → List Panel → Row → Type 0
Faulty length width kinds r = (size kinds ≤ r.kind) ⊎ ForbiddenTurn kinds r ⊎ (length < end kinds r) ⊎ (width < top kinds r)

-- the row i of the plate is at fault
abbrev pub FaultyAt : Plate → ℕ → Type 0
FaultyAt p i = Faulty p.length p.width p.kinds (slice_index_or p.rows i blank)

-- no row is at fault
abbrev pub NoneFaulty : Plate → Type 0
NoneFaulty p = (i : ℕ) → i < size p.rows → FaultyAt p i → ⊥

-- the row k is at fault, and none before it
abbrev pub FirstFaulty : Plate → ℕ → Type 0
FirstFaulty p k = (k < size p.rows) × FaultyAt p k × ((i : ℕ) → i < k → FaultyAt p i → ⊥)

-- the plate comes apart in its stages at its saw width
abbrev pub PlateApart : Plate → Type 0
PlateApart p = ComesApart Exact p.saw p.stages (plate p.length p.width) (pieces p.kinds p.rows)

-- the verdict with the number v and the row k: 0 accepted, 21 a faulty row with the first of them, 22 not coming apart
abbrev pub Judged : Plate → ℕ → ℕ → Type 0
Judged p v k =
    ((v ≡ 0) × (k ≡ 0) × NoneFaulty p × PlateApart p)
    ⊎ ((v ≡ 21) × FirstFaulty p k)
    ⊎ ((v ≡ 22) × (k ≡ 0) × NoneFaulty p × (PlateApart p → ⊥))

-- v and k are the one verdict and row that a plate gets: they hold of it, and no others do
pub record Finding (p : Plate) (v k : ℕ) : Type 0 where
  pub holds : Judged p v k
  pub only : (w j : ℕ) → Judged p w j → (w ≡ v) × (j ≡ k)
