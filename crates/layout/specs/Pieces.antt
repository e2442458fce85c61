-- The size and the place of a piece.
use Rattle.std.specs.Prelude.{ℕ, zero, suc, ◌+◌, false, List, slice_index_or}
use Rattle.layout.specs.declared.panel.Panel.{Panel}
use Rattle.layout.specs.declared.row.Row.{Row}

-- what stands past the end of a list of panels
abbrev pub no_panel : Panel
no_panel = record { length = 0; width = 0; may_turn = false }

-- a blank row
abbrev pub blank : Row
blank = record { kind = 0; turned = 0; segment = 0; strip = 0; spare = 0; x = 0; y = 0 }

-- the size of a piece along the plate's length: the panel's length, or its width when turned
abbrev pub along : Panel → ℕ → ℕ
along p zero = p.length
along p (suc n) = p.width

-- its size across, along the plate's width: the other side
abbrev pub across : Panel → ℕ → ℕ
across p zero = p.width
across p (suc n) = p.length

-- the panel of a row
abbrev pub panel_of : List Panel → Row → Panel
panel_of panels r = slice_index_or panels r.kind no_panel

-- a piece covers x to its end
abbrev pub end : List Panel → Row → ℕ
end panels r = r.x + along (panel_of panels r) r.turned

-- and y to its top
abbrev pub top : List Panel → Row → ℕ
top panels r = r.y + across (panel_of panels r) r.turned
