-- When an oriented number counts.
use Rattle.std.specs.Prelude.{◌≡◌, ℕ, ◌<◌, ◌≤◌, true, ◌⊎◌, length as size, slice_index_or}
use Rattle.layout.specs.declared.panel.Kind.{Kind}
use Rattle.layout.specs.Limits.{no_kind}
use Rattle.layout.specs.Pieces.{along, across}
use Rattle.layout.specs.Tasks.{Model}
use Rattle.patterns.specs.declared.Oriented.{Oriented}

-- the kind of an oriented number
abbrev pub kind_at : Model → Oriented → Kind
kind_at m o = slice_index_or m.kinds o.kind no_kind

-- its kind is wanted and its turn allowed, it fits the plate, and its sizes and its value are those of the kind in that turn
pub record Counted (m : Model) (o : Oriented) : Type 0 where
  pub known : o.kind < size m.kinds
  pub wanted : (kind_at m o).wanted ≡ true
  pub turn : (o.turned ≡ 0) ⊎ ((o.turned ≡ 1) × ((kind_at m o).panel.may_turn ≡ true))
  pub along_is : o.along ≡ along (kind_at m o).panel o.turned
  pub across_is : o.across ≡ across (kind_at m o).panel o.turned
  pub value_is : o.value ≡ (kind_at m o).value
  pub along_most : o.along ≤ m.length
  pub across_most : o.across ≤ m.width

-- a number with lawful sizes and value that fits a plate of l by w
pub record Counts (l w : ℕ) (o : Oriented) : Type 0 where
  pub along_least : 50 ≤ o.along
  pub across_least : 50 ≤ o.across
  pub value_least : 1 ≤ o.value
  pub value_most : o.value ≤ 1_000_000
  pub along_most : o.along ≤ l
  pub across_most : o.across ≤ w
