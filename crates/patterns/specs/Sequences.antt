-- Sequences of oriented numbers: which fit a capacity, how two are compared, and the first of greatest worth.
use Rattle.std.specs.Prelude.{◌≡◌, ℕ, ◌+◌, ◌≤◌, ◌⊎◌, List, [], ◌∷◌, map, All}
use Rattle.choosing.specs.Choice.{Before}
use Rattle.patterns.specs.declared.Oriented.{Oriented}

-- the sum of a number over a list, from the front, where the recursions and the sequences grow; the sum of std gathers from the other end
abbrev pub sum : {A : Type 0} → (A → ℕ) → List A → ℕ
sum f [] = 0
sum f (x ∷ xs) = f x + sum f xs

-- a sequence of numbers that may be used, whose sizes add to at most the capacity
pub record Fits (Usable : Oriented → Type 0) (size : Oriented → ℕ) (capacity : ℕ) (qs : List Oriented) : Type 0 where
  pub usable : All Usable qs
  pub within : sum size qs ≤ capacity

-- The first sequence of greatest worth: none that fits is worth more, and every other of the same worth comes later. Of two sequences the first
-- place that tells them apart decides: whichever has the lower rank there comes first.
pub record FirstBest (rank : Oriented → ℕ) (Usable : Oriented → Type 0) (size worth : Oriented → ℕ) (capacity : ℕ) (qs : List Oriented) : Type 0 where
  pub fits : Fits Usable size capacity qs
  pub greatest : (ps : List Oriented) → Fits Usable size capacity ps → sum worth ps ≤ sum worth qs
  pub earliest : (ps : List Oriented) → Fits Usable size capacity ps → sum worth ps ≡ sum worth qs → (ps ≡ qs) ⊎ Before (map rank qs) (map rank ps)
