-- A task with its sides exchanged, with a border taken off its plate, or with every side widened; with its values and without them.
use Rattle.std.specs.Prelude.{ℕ, ◌+◌, ◌-◌, ◌*◌, List, map}
use Rattle.layout.specs.declared.panel.Panel.{Panel}
use Rattle.layout.specs.declared.panel.Kind.{Kind}
use Rattle.layout.specs.Tasks.{Model, Form, Shape, given}

-- a panel with its sides exchanged
abbrev pub exchanged_panel : Panel → Panel
exchanged_panel p = record { length = p.width; width = p.length; may_turn = p.may_turn }

-- a panel with g added to both sides
abbrev pub widened_panel : ℕ → Panel → Panel
widened_panel g p = record { length = p.length + g; width = p.width + g; may_turn = p.may_turn }

-- a kind with its panel changed and nothing else
abbrev pub with_panel : (Panel → Panel) → Kind → Kind
with_panel change k = record { panel = change k.panel; value = k.value; wanted = k.wanted }

-- the same without its value
abbrev pub form_with_panel : (Panel → Panel) → Form → Form
form_with_panel change f = record { panel = change f.panel; wanted = f.wanted }

-- what is left of a task without its values, from its parts
abbrev pub shape_given : ℕ → ℕ → List Form → Shape
shape_given length width forms = record { length = length; width = width; forms = forms }

-- the sides of the plate and of all kinds exchanged
abbrev pub exchanged_model : Model → Model
exchanged_model m = given m.width m.length (map (with_panel exchanged_panel) m.kinds)

abbrev pub exchanged_shape : Shape → Shape
exchanged_shape s = shape_given s.width s.length (map (form_with_panel exchanged_panel) s.forms)

-- g added to the sides of the plate and of all kinds
abbrev pub widened_model : ℕ → Model → Model
widened_model g m = given (m.length + g) (m.width + g) (map (with_panel (widened_panel g)) m.kinds)

abbrev pub widened_shape : ℕ → Shape → Shape
widened_shape g s = shape_given (s.length + g) (s.width + g) (map (form_with_panel (widened_panel g)) s.forms)

-- the sides of the plate less 2t, never under 0; the kinds as they are
abbrev pub trimmed_model : ℕ → Model → Model
trimmed_model t m = given (m.length - 2 * t) (m.width - 2 * t) m.kinds

abbrev pub trimmed_shape : ℕ → Shape → Shape
trimmed_shape t s = shape_given (s.length - 2 * t) (s.width - 2 * t) s.forms
