-- The plain worth: a number.
use Rattle.std.specs.Prelude.{ℕ, ◌+◌, ◌*◌, ◌≤◌, nat_lt}
use Rattle.choosing.specs.Worth.{Scale}

-- nothing is 0, and numbers are added and compared
abbrev pub plain : Scale ℕ
plain = record { nothing = 0; plus = λ a b. a + b; less = nat_lt }

-- as small as a sum of n pieces, each worth at most a million
abbrev pub PlainWithin : ℕ → ℕ → Type 0
PlainWithin n a = a ≤ 1_000_000 * n
