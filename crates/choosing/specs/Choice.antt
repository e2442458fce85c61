-- The choice of a sequence of candidates within a capacity, of greatest worth and then first in order.
use Rattle.std.specs.Prelude.{◌≡◌, ℕ, zero, suc, ◌+◌, ◌-◌, ◌<◌, ◌≤◌, false, ◌⊎◌, List, [], ◌∷◌, length, nat_le, if◌then◌else◌}
use Rattle.choosing.specs.Worth.{Scale}
use Rattle.choosing.specs.declared.Candidate.{Candidate}

-- ---- sequences of positions in the list of candidates

-- the size of the candidate at a position
abbrev pub size_at : {W : Type 0} → List (Candidate W) → ℕ → ℕ
size_at [] k = 0
size_at (c ∷ cs) zero = c.size
size_at (c ∷ cs) (suc k) = size_at cs k

-- the worth of the candidate at a position
abbrev pub worth_at : {W : Type 0} → Scale W → List (Candidate W) → ℕ → W
worth_at s [] k = s.nothing
worth_at s (c ∷ cs) zero = c.worth
worth_at s (c ∷ cs) (suc k) = worth_at s cs k

-- the sum of the sizes
abbrev pub total_size : {W : Type 0} → List (Candidate W) → List ℕ → ℕ
total_size cands [] = 0
total_size cands (k ∷ ks) = size_at cands k + total_size cands ks

-- the sum of the worths, in the order of the sequence
abbrev pub total_worth : {W : Type 0} → Scale W → List (Candidate W) → List ℕ → W
total_worth s cands [] = s.nothing
total_worth s cands (k ∷ ks) = s.plus (worth_at s cands k) (total_worth s cands ks)

-- each position is one of the candidates
abbrev pub Known : {W : Type 0} → List (Candidate W) → List ℕ → Type 0
Known cands [] = Unit {0}
Known cands (k ∷ ks) = (k < length cands) × Known cands ks

-- each position is one of the candidates, and the sizes add to at most the capacity
pub record Feasible {W : Type 0} (cands : List (Candidate W)) (cap : ℕ) (ks : List ℕ) : Type 0 where
  pub known : Known cands ks
  pub within : total_size cands ks ≤ cap

-- at the first difference the first sequence has the lower position
abbrev pub Before : List ℕ → List ℕ → Type 0
Before [] ks = ⊥
Before (j ∷ js) [] = ⊥
Before (j ∷ js) (k ∷ ks) = (j < k) ⊎ ((j ≡ k) × Before js ks)

-- a feasible sequence: no feasible one is worth more, and every other feasible one of the same worth comes later
pub record First {W : Type 0} (s : Scale W) (cands : List (Candidate W)) (cap : ℕ) (ks : List ℕ) : Type 0 where
  pub feasible : Feasible cands cap ks
  pub greatest : (js : List ℕ) → Feasible cands cap js → s.less (total_worth s cands ks) (total_worth s cands js) ≡ false
  pub earliest : (js : List ℕ) → Feasible cands cap js → total_worth s cands js ≡ total_worth s cands ks → (js ≡ ks) ⊎ Before ks js

-- ---- the same, computed

-- a sequence with its worth
pub record Choice (W : Type 0) : Type 0 where
  pub worth : W
  pub order : List ℕ

-- the empty sequence
abbrev pub empty : {W : Type 0} → Scale W → Choice W
empty s = record { worth = s.nothing; order = [] }

-- candidate c, at position k, in front of a sequence
abbrev pub taking : {W : Type 0} → Scale W → ℕ → Candidate W → Choice W → Choice W
taking s k c r = record { worth = s.plus c.worth r.worth; order = k ∷ r.order }

-- the first of two, unless the second is worth more
abbrev pub prefer : {W : Type 0} → Scale W → Choice W → Choice W → Choice W
prefer s a b = if s.less a.worth b.worth then b else a

-- The best that begins with one of cs, which stand at k and on; rest is the best for each smaller capacity.
-- What is not looked at is bound by a let, so that it is not computed.
abbrev pub choose : {W : Type 0} → Scale W → (ℕ → Choice W) → ℕ → ℕ → List (Candidate W) → Choice W
choose s rest cap k [] = empty s
choose s rest cap k (c ∷ cs) =
    let later = choose s rest cap (suc k) cs in
    let taken = prefer s (taking s k c (rest (cap - c.size))) later in
    if nat_le c.size cap then taken else later

-- the best of at most n candidates
unfoldable pub best : {W : Type 0} → Scale W → List (Candidate W) → ℕ → ℕ → Choice W
best s cands zero cap = empty s
best s cands (suc n) cap = choose s (λ c. best s cands n c) cap 0 cands

-- the first sequence of greatest worth, with its worth: each candidate takes room, so that there are at most as many as the capacity
abbrev pub first : {W : Type 0} → Scale W → List (Candidate W) → ℕ → Choice W
first s cands cap = best s cands cap cap

-- the greatest worth
abbrev pub most : {W : Type 0} → Scale W → List (Candidate W) → ℕ → W
most s cands cap = (first s cands cap).worth
