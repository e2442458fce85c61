-- A Table as the list that it holds.
use Rattle.std.specs.Prelude.{ℕ, List, take}
use Rattle.layout.specs.declared.table.Table.{Table}

-- the list that a table holds
abbrev pub listed : {T : Type 0} → {N : ℕ} → Table T N → List T
listed t = take t.used t.places
