-- A task as the promises speak of it: with its values (Model) and without them (Shape).
use Rattle.std.specs.Prelude.{◌≡◌, ℕ, ◌+◌, ◌<◌, ◌≤◌, Bool, ◌⊎◌, List, [], ◌∷◌, map, length as count, slice_index_or}
use Rattle.layout.specs.declared.panel.Panel.{Panel}
use Rattle.layout.specs.declared.panel.Kind.{Kind}
use Rattle.layout.specs.declared.row.Row.{Row}
use Rattle.layout.specs.Limits.{SomeKind, EachKind, LawfulSides, LawfulValue, BadSides, BadValue, no_kind}

-- a task: the sides of the plate, and the kinds by their number
pub record Model : Type 0 where
  pub length : ℕ
  pub width : ℕ
  pub kinds : List Kind

-- a kind without its value
pub record Form : Type 0 where
  pub panel : Panel
  pub wanted : Bool

-- a task without its values
pub record Shape : Type 0 where
  pub length : ℕ
  pub width : ℕ
  pub forms : List Form

-- what is left of a kind without its value
abbrev pub form : Kind → Form
form k = record { panel = k.panel; wanted = k.wanted }

-- what stands past the end of a list of forms
abbrev pub no_form : Form
no_form = form no_kind

-- what is left of a task without its values
abbrev pub shape : Model → Shape
shape m = record { length = m.length; width = m.width; forms = map form m.kinds }

-- the panels of a task, by the number of their kind
abbrev pub panels : Shape → List Panel
panels s = map (λ (f : Form). f.panel) s.forms

-- the kind of a row, without its value
abbrev pub form_of : Shape → Row → Form
form_of s r = slice_index_or s.forms r.kind no_form

-- the plate and the kinds that a caller gives
abbrev pub given : ℕ → ℕ → List Kind → Model
given length width kinds = record { length = length; width = width; kinds = kinds }

-- the model keeps to the limits of a task
pub record WithinLimits (m : Model) : Type 0 where
  pub plate : (m.length ≤ 3200) × (m.width ≤ 3200)
  pub few : count m.kinds ≤ 32
  pub sides : EachKind LawfulSides m.kinds
  pub values : EachKind LawfulValue m.kinds

-- why a task is not made: 1 a side of the plate above 3,200 or a side of a kind outside 50 to 3,200, 2 a value outside 1 to 1,000,000, 11 more than 32 kinds
abbrev pub TaskCause : Model → ℕ → Type 0
TaskCause m c =
    ((c ≡ 1) × ((3200 < m.length) ⊎ (3200 < m.width) ⊎ SomeKind BadSides m.kinds))
    ⊎ ((c ≡ 2) × SomeKind BadValue m.kinds)
    ⊎ ((c ≡ 11) × (32 < count m.kinds))

-- neither side of the kind exceeds the reach
abbrev pub KindWithin : ℕ → Kind → Type 0
KindWithin reach k = (k.panel.length ≤ reach) × (k.panel.width ≤ reach)

-- a side of the kind exceeds the reach
abbrev pub KindBeyond : ℕ → Kind → Type 0
KindBeyond reach k = (reach < k.panel.length) ⊎ (reach < k.panel.width)

-- no side of the plate or of a kind, wanted or not, exceeds the reach
pub record WithinReach (reach : ℕ) (m : Model) : Type 0 where
  pub plate : (m.length ≤ reach) × (m.width ≤ reach)
  pub each : EachKind (KindWithin reach) m.kinds

-- a side of the plate or of some kind, wanted or not, exceeds the reach
abbrev pub BeyondReach : ℕ → Model → Type 0
BeyondReach reach m = (reach < m.length) ⊎ (reach < m.width) ⊎ SomeKind (KindBeyond reach) m.kinds

-- what one piece of a row's kind is worth
abbrev pub value_of : Model → Row → ℕ
value_of m r = (slice_index_or m.kinds r.kind no_kind).value

-- the worth of a list of rows: the sum of its rows' values, spare rows included
abbrev pub worth : Model → List Row → ℕ
worth m [] = 0
worth m (r ∷ rows) = value_of m r + worth m rows
