-- Sums as fields of 16 bits hold them. No promise of a task speaks of these: within its limits they are the plain sums.
use Rattle.std.specs.Prelude.{ℕ, ◌+◌, ◌-◌, ◌^◌, min}
use Rattle.layout.specs.declared.panel.Panel.{Panel}

-- what a field of 16 bits holds of a number: the number, or the field's greatest
abbrev pub capped : ℕ → ℕ
capped n = min n (2 ^ 16 - 1)

-- a panel with g added to both sides, as far as its fields hold the sums
abbrev pub stretched_panel : ℕ → Panel → Panel
stretched_panel g p = record { length = capped (p.length + g); width = capped (p.width + g); may_turn = p.may_turn }
