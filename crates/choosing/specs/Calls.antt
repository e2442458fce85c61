-- What the two calls of the chooser take and answer.
use Rattle.std.specs.Prelude.{◌≡◌, ℕ, ◌+◌, ◌<◌, ◌≤◌, false, List, length, take, drop}
use Rattle.choosing.specs.Worth.{Scale}
use Rattle.choosing.specs.Choice.{total_worth, Feasible, First, first, most}
use Rattle.choosing.specs.Limits.{Fair, Filled}
use Rattle.choosing.specs.Recursion.{Recursion, Admission, Commutes}
use Rattle.choosing.specs.declared.Candidate.{Candidate}
use Rattle.choosing.specs.declared.Selection.{Selection}

-- What can be worked on: each candidate has size at least 50, is worth more than nothing and has at most 64 pieces, the capacity is at most 3,200, and the table has more places.
pub record Workable {W : Type 0} (s : Scale W) (within : ℕ → W → Type 0) (cands : List (Candidate W)) (capacity places : ℕ) : Type 0 where
  pub fair : Fair s within 64 cands
  pub limit : capacity ≤ 3200
  pub room : capacity < places

-- what a sequence can be chosen from: the same, with at least 64 places for its positions
pub record Choosable {W : Type 0} (s : Scale W) (within : ℕ → W → Type 0) (cands : List (Candidate W)) (capacity places positions : ℕ) : Type 0 where
  pub workable : Workable s within cands capacity places
  pub enough : 64 ≤ positions

-- The greatest worth: no feasible sequence is worth more, and one has this worth. Whatever keeps to the recursion over the capacity comes to it,
-- and so does whatever admits one candidate after the other, which has at each step the greatest worth of the candidates in front.
pub record GreatestWorth {W : Type 0} (s : Scale W) (cands : List (Candidate W)) (capacity : ℕ) (worth : W) : Type 0 where
  pub computed : worth ≡ most s cands capacity
  pub none_more : (ks : List ℕ) → Feasible cands capacity ks → s.less worth (total_worth s cands ks) ≡ false
  pub reached : (ks : List ℕ) × Feasible cands capacity ks × (total_worth s cands ks ≡ worth)
  pub by_capacity : (F : ℕ → W) → Recursion s cands F → F capacity ≡ worth
  pub by_candidate : Commutes s → (f : ℕ → ℕ → W) → Admission s cands f → f (length cands) capacity ≡ worth
  pub by_front : Commutes s → (f : ℕ → ℕ → W) → Admission s cands f → (k x : ℕ) → k ≤ length cands → f k x ≡ most s (take k cands) x

-- what a call leaves of the table: the greatest worth at each capacity up to the one given, and the places beyond as they were
pub record Tabled {W : Type 0} (s : Scale W) (cands : List (Candidate W)) (capacity : ℕ) (before after : List W) : Type 0 where
  pub filled : Filled s after cands (capacity + 1)
  pub beyond : drop (capacity + 1) after ≡ drop (capacity + 1) before

-- the chosen sequence is the first of greatest worth; it stands in the first places, and the places beyond are as they were
pub record Selected {W : Type 0} (s : Scale W) (cands : List (Candidate W)) (capacity : ℕ) (chosen : Selection W) (before after : List ℕ) : Type 0 where
  pub short : chosen.count ≤ 64
  pub computed : take chosen.count after ≡ (first s cands capacity).order
  pub is_first : First s cands capacity (take chosen.count after)
  pub total : chosen.worth ≡ total_worth s cands (take chosen.count after)
  pub greatest : GreatestWorth s cands capacity chosen.worth
  pub beyond : drop chosen.count after ≡ drop chosen.count before
