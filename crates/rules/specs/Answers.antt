-- What the call `best` of a rule answers, and what it leaves in the rows.
use Rattle.std.specs.Prelude.{◌≡◌, ℕ, ◌-◌, ◌<◌, ◌≤◌, ◌⊎◌, List, ◌++◌, length as size, drop, replicate, Ok, Err, Result}
use Rattle.layout.specs.declared.refusal.Refusal.{Refusal}
use Rattle.layout.specs.declared.row.Row.{Row}
use Rattle.layout.specs.Pieces.{blank}
use Rattle.layout.specs.Tasks.{Model, WithinReach, BeyondReach, worth}
use Rattle.rules.specs.declared.best.Best.{Best}

-- why `best` refuses: 5 under 8,000 words of work memory or under 4,096 rows, 17 a side of the plate or of a kind beyond the reach
abbrev pub BestCause : ℕ → Model → ℕ → ℕ → ℕ → Type 0
BestCause reach m words rows c =
    ((c ≡ 5) × ((words < 8000) ⊎ (rows < 4096)))
    ⊎ ((c ≡ 17) × BeyondReach reach m)

-- there is none of these causes: memory enough, and a task within the reach
pub record Admitted (reach : ℕ) (m : Model) (words rows : ℕ) : Type 0 where
  pub words_enough : 8000 ≤ words
  pub rows_enough : 4096 ≤ rows
  pub within : WithinReach reach m

-- the rows with a pattern written: the pattern, then blanks up to 4,096, then what stood there
abbrev pub written : List Row → List Row → List Row
written pattern old = pattern ++ (replicate (4096 - size pattern) blank ++ drop 4096 old)

-- the pattern stands in the rows, and its number of rows and its worth are answered
pub record Wrote (m : Model) (pattern old new : List Row) (b : Best) : Type 0 where
  pub rows : new ≡ written pattern old
  pub count : b.rows ≡ size pattern
  pub worth_is : b.worth ≡ worth m pattern

-- what `best` leaves in the rows: the pattern, or, where it refuses, what they held
abbrev pub Leaves : Model → List Row → List Row → List Row → Result Best Refusal → Type 0
Leaves m pattern old new (Ok b) = Wrote m pattern old new b
Leaves m pattern old new (Err e) = new ≡ old
