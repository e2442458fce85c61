-- The pieces that a list of rows means.
use Rattle.std.specs.Prelude.{List, length as size, slice_index_or}
use Rattle.layout.specs.declared.panel.Panel.{Panel}
use Rattle.layout.specs.declared.row.Row.{Row}
use Rattle.layout.specs.declared.rect.Rect.{Rect}
use Rattle.layout.specs.Pieces.{blank, end, top}
use Rattle.layout.specs.Apart.{Pieces}

-- the place of a row's piece: its length or width along the plate's length, and the other side across
abbrev pub place_of : List Panel → Row → Rect
place_of panels r = record { along = record { from = r.x; to = end panels r }; across = record { from = r.y; to = top panels r } }

-- every row is a piece, a spare one too
abbrev pub pieces : List Panel → List Row → Pieces
pieces panels rows = record { count = size rows; place = λ i. place_of panels (slice_index_or rows i blank) }
