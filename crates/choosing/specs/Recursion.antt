-- The greatest worth by two recursions: over the capacity one unit at a time, and over the candidates one after the other.
use Rattle.std.specs.Prelude.{◌≡◌, ℕ, suc, ◌-◌, ◌<◌, List, [], ◌∷◌, length, nat_le, if◌then◌else◌}
use Rattle.choosing.specs.Worth.{Scale}
use Rattle.choosing.specs.Choice.{size_at, worth_at}
use Rattle.choosing.specs.declared.Candidate.{Candidate}

-- the larger of two worths
abbrev pub larger : {W : Type 0} → Scale W → W → W → W
larger s a b = if s.less a b then b else a

-- the greatest sum of the worth of a candidate that fits and F of the room that it leaves, or nothing
abbrev pub best_offer : {W : Type 0} → Scale W → (ℕ → W) → ℕ → List (Candidate W) → W
best_offer s F cap [] = s.nothing
best_offer s F cap (c ∷ cs) =
    let later = best_offer s F cap cs in
    let mine = larger s (s.plus c.worth (F (cap - c.size))) later in
    if nat_le c.size cap then mine else later

-- F (0) = nothing, F (y) = max (F (y - 1), worth of k + F (y - size of k) over each k that fits)
pub record Recursion {W : Type 0} (s : Scale W) (cands : List (Candidate W)) (F : ℕ → W) : Type 0 where
  pub start : F 0 ≡ s.nothing
  pub step : (y : ℕ) → F (suc y) ≡ larger s (F y) (best_offer s F (suc y) cands)

-- f (0, x) = nothing, f (k, x) = max (f (k - 1, x), worth of k + f (k, x - size of k) if k fits), where the candidates are counted from 1
pub record Admission {W : Type 0} (s : Scale W) (cands : List (Candidate W)) (f : ℕ → ℕ → W) : Type 0 where
  pub start : (x : ℕ) → f 0 x ≡ s.nothing
  pub step : (k x : ℕ) → k < length cands → f (suc k) x ≡ (if nat_le (size_at cands k) x then larger s (f k x) (s.plus (worth_at s cands k) (f (suc k) (x - size_at cands k))) else f k x)

-- a sum is the same in any order
abbrev pub Commutes : {W : Type 0} → Scale W → Type 0
Commutes {W} s = (a b : W) → s.plus a b ≡ s.plus b a
