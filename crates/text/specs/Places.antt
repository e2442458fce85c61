-- The place just past some bytes: line and column, counted from 1.
use Rattle.std.specs.Prelude.{ℕ, ◌+◌, Bool, not, List, count_by, ◌==◌}
use Rattle.std.specs.List.{suffix_len}

-- whether a byte ends a line
abbrev pub ends_line : ℕ → Bool
ends_line b = b == 10

-- one more than the lines that ended
abbrev pub line_after : List ℕ → ℕ
line_after before = 1 + count_by ends_line before

-- one more than the bytes since the last line ended
abbrev pub column_after : List ℕ → ℕ
column_after before = 1 + suffix_len (λ b. not (ends_line b)) before
