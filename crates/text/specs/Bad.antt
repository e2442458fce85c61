-- The line of a refusal, byte by byte.
use Rattle.std.specs.Prelude.{ℕ, List, ◌++◌, codes, decimal}

-- `bad CODE line LINE column COLUMN` and byte 10
abbrev pub bad_line : ℕ → ℕ → ℕ → List ℕ
bad_line code line column = codes "bad " ++ (decimal code ++ (codes " line " ++ (decimal line ++ (codes " column " ++ (decimal column ++ codes "\n")))))
