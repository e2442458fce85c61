-- Candidates within the limits, and a table of greatest worths.
use Rattle.std.specs.Prelude.{◌≡◌, ℕ, ◌<◌, ◌≤◌, true, List, length, slice_index_or}
use Rattle.choosing.specs.declared.Candidate.{Candidate}
use Rattle.choosing.specs.Choice.{size_at, worth_at, most}
use Rattle.choosing.specs.Worth.{Scale}

-- a candidate takes room, is worth more than nothing, and has at most p pieces
pub record FairOne {W : Type 0} (s : Scale W) (within : ℕ → W → Type 0) (p : ℕ) (c : Candidate W) : Type 0 where
  pub room : 50 ≤ c.size
  pub value : s.less s.nothing c.worth ≡ true
  pub few : within p c.worth

-- each candidate takes room, is worth more than nothing, and has at most p pieces
pub record Fair {W : Type 0} (s : Scale W) (within : ℕ → W → Type 0) (p : ℕ) (cands : List (Candidate W)) : Type 0 where
  pub room : (k : ℕ) → k < length cands → 50 ≤ size_at cands k
  pub value : (k : ℕ) → k < length cands → s.less s.nothing (worth_at s cands k) ≡ true
  pub few : (k : ℕ) → k < length cands → within p (worth_at s cands k)

-- the table has the greatest worth at each capacity below n
abbrev pub Filled : {W : Type 0} → Scale W → List W → List (Candidate W) → ℕ → Type 0
Filled {W} s table cands n = (c : ℕ) (d : W) → c < n → slice_index_or table c d ≡ most s cands c
