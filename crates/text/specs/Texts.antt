-- Sets of texts, and where a text leaves one.
use Rattle.std.specs.Prelude.{◌≡◌, ℕ, List, [], ◌∷◌, ◌++◌}

-- some text of K begins with p
abbrev pub Begins : (List ℕ → Type 0) → List ℕ → Type 0
Begins K p = (r : List ℕ) × K (p ++ r)

-- `left` is what follows in t on the longest front that could still become a text of K:
-- the bytes read begin a longer text of K, and with one byte more of t they begin none
pub record Stops (K : List ℕ → Type 0) (t left : List ℕ) : Type 0 where
  pub read : List ℕ
  pub parts : t ≡ read ++ left
  pub next : ℕ
  pub after : List ℕ
  pub could : K (read ++ (next ∷ after))
  pub cannot : (b : ℕ) (more : List ℕ) → left ≡ b ∷ more → Begins K (read ++ (b ∷ [])) → ⊥
