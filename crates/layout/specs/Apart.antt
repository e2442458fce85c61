-- What it means that a plate comes apart into its pieces, by straight cuts from edge to edge, in stages. It says that there are such cuts, not
-- how to find them, and it bounds neither the number of stages nor the saw width.
use Rattle.std.specs.Prelude.{◌≡◌, ℕ, suc, ◌+◌, ◌-◌, ◌<◌, ◌≤◌, min, max, ◌⊎◌}
use Rattle.layout.specs.declared.rect.Span.{Span}
use Rattle.layout.specs.declared.rect.Rect.{Rect}

-- the extent U lies within the extent V
abbrev pub Within : Span → Span → Type 0
Within U V = (V.from ≤ U.from) × (U.to ≤ V.to)

-- the rectangle Q lies inside the rectangle R
abbrev pub Inside : Rect → Rect → Type 0
Inside Q R = Within Q.along R.along × Within Q.across R.across

-- a rectangle with its two directions exchanged
abbrev pub swapped : Rect → Rect
swapped R = record { along = R.across; across = R.along }

-- the pieces of a plate: how many there are, and the place of each; two equal places are two pieces
pub record Pieces : Type 0 where
  pub count : ℕ
  pub place : ℕ → Rect

-- all pieces with their two directions exchanged
abbrev pub all_swapped : Pieces → Pieces
all_swapped ps = record { count = ps.count; place = λ i. swapped (ps.place i) }

-- the part R holds the piece i: a part is a rectangle, and its pieces are those that lie inside it
abbrev pub Holds : Pieces → Rect → ℕ → Type 0
Holds ps R i = (i < ps.count) × Inside (ps.place i) R

-- A cut divides the direction `along`. At p, with saw width g, it takes the material from p - g to p and runs from edge to edge of the part R.
-- It overlaps no piece of R and passes inside none: each ends at or before p - g, or begins at or beyond p.
abbrev pub Clear : ℕ → Pieces → Rect → ℕ → Type 0
Clear g ps R p = (i : ℕ) → Holds ps R i → ((ps.place i).along.to + g ≤ p) ⊎ (p ≤ (ps.place i).along.from)

-- The part of R before the cut ends at p - g, as far as R has it. Where p is below g, nothing is before the cut: a part that ends at or before
-- its own beginning is none, and holds no piece.
abbrev pub before : ℕ → ℕ → Rect → Rect
before g p R = record { along = record { from = R.along.from; to = min R.along.to (p - g) }; across = R.across }

-- the part of R after the cut begins at p, as far as R has it; a cut that misses R leaves it as it was, and the other part is none
abbrev pub after : ℕ → Rect → Rect
after p R = record { along = record { from = max R.along.from p; to = R.along.to }; across = R.across }

-- A test for a finished part is a relation between the part and the one piece that it holds. The test here: the part is exactly the piece.
abbrev pub Exact : Rect → Rect → Type 0
Exact R Q = ((R.along.from ≡ Q.along.from) × (R.along.to ≡ Q.along.to)) × ((R.across.from ≡ Q.across.from) × (R.across.to ≡ Q.across.to))

-- the part R is finished: if it holds a piece, it holds that one only, and passes the test with it
abbrev pub Finished : (Rect → Rect → Type 0) → Pieces → Rect → Type 0
Finished test ps R = (i j : ℕ) → Holds ps R i → Holds ps R j → (i ≡ j) × test R (ps.place i)

-- The part R with s stages left, the present one among them, comes apart into finished parts. Nothing is left to do (done), or a cut of this
-- stage divides it (cut), or the next stage goes on in the other direction (next).
pub data Apart (test : Rect → Rect → Type 0) (g : ℕ) : Pieces → ℕ → Rect → Type 0 where
  done : {ps : Pieces} {s : ℕ} {R : Rect} → Finished test ps R → Apart test g ps s R
  cut : {ps : Pieces} {s : ℕ} {R : Rect} (p : ℕ) → Clear g ps R p → Apart test g ps (suc s) (before g p R) → Apart test g ps (suc s) (after p R) → Apart test g ps (suc s) R
  next : {ps : Pieces} {s : ℕ} {R : Rect} → Apart test g (all_swapped ps) s (swapped R) → Apart test g ps (suc s) R

-- the plate R with its pieces comes apart at saw width g in s stages: each piece lies inside it, and either direction may come first
abbrev pub ComesApart : (Rect → Rect → Type 0) → ℕ → ℕ → Rect → Pieces → Type 0
ComesApart test g s R ps = ((i : ℕ) → i < ps.count → Inside (ps.place i) R) × (Apart test g ps s R ⊎ Apart test g (all_swapped ps) s (swapped R))

-- a plate, with its length along
abbrev pub plate : ℕ → ℕ → Rect
plate length width = record { along = record { from = 0; to = length }; across = record { from = 0; to = width } }

-- each piece has some length and some width
abbrev pub Sized : Pieces → Type 0
Sized ps = (i : ℕ) → i < ps.count → ((ps.place i).along.from < (ps.place i).along.to) × ((ps.place i).across.from < (ps.place i).across.to)
