-- What one of the two named rules means: which members a rule has under its name.
use Rattle.std.specs.Prelude.{◌≡◌, ℕ, List}
use Rattle.layout.specs.declared.row.Row.{Row}
use Rattle.layout.specs.Tasks.{Model, Shape}

-- its patterns are the lists of the set and its named pattern is this one, for every task; its reach is 3,200, its stages are 3 and its saw width is 0
pub record Means (set : Shape → List Row → Type 0) (pattern : Model → List Row) (patterns : Shape → List Row → Type 0) (named : Model → List Row) (reach stages saw : ℕ) : Type 0 where
  pub only_these : (s : Shape) (rows : List Row) → patterns s rows → set s rows
  pub all_these : (s : Shape) (rows : List Row) → set s rows → patterns s rows
  pub named_is : (m : Model) → named m ≡ pattern m
  pub reach_is : reach ≡ 3200
  pub stages_are : stages ≡ 3
  pub saw_is : saw ≡ 0
