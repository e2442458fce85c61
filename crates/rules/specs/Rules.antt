-- What a cutting rule means: a set of patterns and one named pattern for each task, a reach, a number of stages and a saw width; and the laws
-- that whoever adds a rule shows of them.
use Rattle.std.specs.Prelude.{All, ◌≡◌, ℕ, ◌<◌, ◌≤◌, true, ◌⊎◌, List, [], length as size}
use Rattle.layout.specs.declared.row.Row.{Row}
use Rattle.layout.specs.Pieces.{panel_of, end, top}
use Rattle.layout.specs.Apart.{Exact, ComesApart, plate}
use Rattle.layout.specs.Places.{pieces}
use Rattle.layout.specs.Tasks.{Model, Shape, shape, panels, form_of, WithinLimits, WithinReach, worth}

-- the row may stand in a pattern: its kind is known and wanted, turned only where allowed, its piece lies inside the plate, and it is not spare
pub record Placed (s : Shape) (r : Row) : Type 0 where
  pub known : r.kind < size s.forms
  pub wanted : (form_of s r).wanted ≡ true
  pub turn : (r.turned ≡ 0) ⊎ ((r.turned ≡ 1) × ((panel_of (panels s) r).may_turn ≡ true))
  pub inside_along : end (panels s) r ≤ s.length
  pub inside_across : top (panels s) r ≤ s.width
  pub unspared : r.spare ≡ 0

-- its segment is at most 7 and its strip at most 63
abbrev pub Numbered : Row → Type 0
Numbered r = (r.segment ≤ 7) × (r.strip ≤ 63)

-- the rows come apart on the plate of the task, in the stages at the saw width
abbrev pub RowsApart : ℕ → ℕ → Shape → List Row → Type 0
RowsApart saw stages s rows = ComesApart Exact saw stages (plate s.length s.width) (pieces (panels s) rows)

-- what holds of each pattern of a rule: at most 4,096 rows, each placed and numbered within the limits, and they come apart
pub record Proper (stages saw : ℕ) (s : Shape) (rows : List Row) : Type 0 where
  pub few : size rows ≤ 4096
  pub placed : All (Placed s) rows
  pub numbered : All Numbered rows
  pub apart : RowsApart saw stages s rows

-- a task that a rule answers for: within the limits of a task and within the rule's reach
pub record Asked (reach : ℕ) (m : Model) : Type 0 where
  pub limits : WithinLimits m
  pub within : WithinReach reach m

-- The laws of a rule. Its set is over the shape of a task, so that values have no part in it.
pub record RuleLaws (patterns : Shape → List Row → Type 0) (named : Model → List Row) (reach stages saw : ℕ) : Type 0 where
  -- the reach is at most 3,200, and there is at least one stage
  pub far : reach ≤ 3200
  pub staged : 1 ≤ stages
  -- the empty list is a pattern
  pub empty : (m : Model) → Asked reach m → patterns (shape m) []
  -- what holds of each pattern
  pub proper : (m : Model) → Asked reach m → (rows : List Row) → patterns (shape m) rows → Proper stages saw (shape m) rows
  -- the named pattern is one of the patterns
  pub member : (m : Model) → Asked reach m → patterns (shape m) (named m)
  -- and none is worth more
  pub most : (m : Model) → Asked reach m → (rows : List Row) → patterns (shape m) rows → worth m rows ≤ worth m (named m)
