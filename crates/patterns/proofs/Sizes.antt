-- The sizes and values of pieces on the plate of a task within the limits.
use Rattle.std.proofs.Common.{◌≡◌, ℕ, ◌<◌, ◌≤◌, length, get_or, arith}
use Rattle.std.proofs.lemmas.List.{length-map}
use Rattle.std.proofs.Math.ListN.{get_or-map}
use Rattle.layout.specs.declared.row.Row.{Row}
use Rattle.layout.specs.Limits.{no_kind}
use Rattle.layout.specs.Pieces.{along, across, panel_of}
use Rattle.layout.specs.Tasks.{Model, Shape, WithinLimits, shape, form, form_of, panels}
use Rattle.rules.specs.Rules.{Placed}
use Rattle.rules.specs.Rowwise.{panel_of_kind, sized_row}

-- the size of a row's piece along the plate, and across it
abbrev pub along_of : Shape → Row → ℕ
along_of s r = along (panel_of (panels s) r) r.turned

abbrev pub across_of : Shape → Row → ℕ
across_of s r = across (panel_of (panels s) r) r.turned

pub form_is : (m : Model) (r : Row) → form_of (shape m) r ≡ form (get_or m.kinds r.kind no_kind)
form_is m r = get_or-map form m.kinds r.kind no_kind

pub panel_is : (m : Model) (r : Row) → panel_of (panels (shape m)) r ≡ (get_or m.kinds r.kind no_kind).panel
panel_is m r = panel_of_kind m r.kind

pub known_kind : (m : Model) (r : Row) → Placed (shape m) r → r.kind < length m.kinds
known_kind m r p = omega (arith, p.known, length-map m.kinds form)

pub sizes : (m : Model) → WithinLimits m → (r : Row) → Placed (shape m) r → (50 ≤ along_of (shape m) r) × (50 ≤ across_of (shape m) r)
sizes m ok r p = sized_row m ok r (known_kind m r p)
