-- The set that has only the empty list.
use Rattle.std.specs.Prelude.{◌≡◌, List, []}
use Rattle.layout.specs.declared.row.Row.{Row}
use Rattle.layout.specs.Tasks.{Shape, Model}

-- the one pattern is the empty list
abbrev pub OnlyEmptyList : Shape → List Row → Type 0
OnlyEmptyList s rows = rows ≡ []

-- and so it is the named one
abbrev pub no_rows : Model → List Row
no_rows m = []
