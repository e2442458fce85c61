-- Sums as the fields of a row hold them. No promise of a rule speaks of these: within the limits of a task they are the plain sums.
use Rattle.std.specs.Prelude.{ℕ, ◌+◌}
use Rattle.layout.specs.declared.row.Row.{Row}
use Rattle.layout.specs.Sums.{capped}

-- a row moved by t as far as its fields hold the sums
abbrev pub pushed_row : ℕ → Row → Row
pushed_row t r = record { kind = r.kind; turned = r.turned; segment = r.segment; strip = r.strip; spare = r.spare; x = capped (r.x + t); y = capped (r.y + t) }
