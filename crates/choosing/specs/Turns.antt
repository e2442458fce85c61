-- What a candidate offers at a capacity, by a table of greatest worths: the code that fills the table and reads it speaks in these terms.
use Rattle.std.specs.Prelude.{◌≡◌, ℕ, ◌-◌, ◌<◌, ◌≤◌, Bool, not, ◌&&◌, List, ◌∷◌, length, Some, None, Option, nat_le, slice_index_or, unwrap_or, if◌then◌else◌}
use Rattle.choosing.specs.Worth.{Scale}
use Rattle.choosing.specs.Choice.{size_at, first}
use Rattle.choosing.specs.declared.Candidate.{Candidate}

-- a candidate's worth and what the table has for the room that it leaves
abbrev pub sum_with : {W : Type 0} → Scale W → List W → ℕ → Candidate W → W
sum_with s table capacity c = s.plus c.worth (slice_index_or table (capacity - c.size) s.nothing)

-- what a candidate offers, where it fits
abbrev pub offer_of : {W : Type 0} → Scale W → List W → ℕ → Candidate W → Option W
offer_of s table capacity c = if nat_le c.size capacity then Some (sum_with s table capacity c) else None

-- the same, and nothing where it does not fit
abbrev pub offer_or_nothing : {W : Type 0} → Scale W → List W → ℕ → Candidate W → W
offer_or_nothing s table capacity c = unwrap_or (offer_of s table capacity c) s.nothing

-- whether a candidate fits, and offers no less than the goal
abbrev pub reaches_goal : {W : Type 0} → Scale W → List W → ℕ → W → Candidate W → Bool
reaches_goal s table capacity goal c = nat_le c.size capacity && not (s.less (sum_with s table capacity c) goal)

-- what an offer asks of a candidate that fits: the table has a place for the room that it leaves, and the sum is one of at most 4,096 pieces
pub record Offerable {W : Type 0} (s : Scale W) (within : ℕ → W → Type 0) (table : List W) (capacity : ℕ) (c : Candidate W) : Type 0 where
  pub room : c.size ≤ capacity → capacity - c.size < length table
  pub bounded : c.size ≤ capacity → ∥ within 4096 (sum_with s table capacity c) ∥₁

-- the first sequence begins with candidate k, which takes room and fits, and goes on as the first sequence in the room that is left
pub record Begins {W : Type 0} (s : Scale W) (cands : List (Candidate W)) (capacity k : ℕ) : Type 0 where
  pub known : k < length cands
  pub takes : 50 ≤ size_at cands k
  pub fits : size_at cands k ≤ capacity
  pub on : (first s cands capacity).order ≡ k ∷ (first s cands (capacity - size_at cands k)).order
