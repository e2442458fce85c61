-- What a worth is: a nothing, a sum and an order, and the laws that they keep.
use Rattle.std.specs.Prelude.{◌≡◌, ℕ, ◌+◌, ◌≤◌, Bool, true, false}

-- a nothing, a sum and an order
pub record Scale (W : Type 0) : Type 0 where
  pub nothing : W
  pub plus : W → W → W
  pub less : W → W → Bool

-- The sum joins in any bracketing, with nothing as its neutral; the order is total; adding the same to both sides keeps a lower worth lower.
pub record Laws {W : Type 0} (s : Scale W) : Type 0 where
  pub left : (a : W) → s.plus s.nothing a ≡ a
  pub right : (a : W) → s.plus a s.nothing ≡ a
  pub assoc : (a b c : W) → s.plus (s.plus a b) c ≡ s.plus a (s.plus b c)
  pub never : (a : W) → s.less a a ≡ false
  pub chain : (a b c : W) → s.less a b ≡ true → s.less b c ≡ true → s.less a c ≡ true
  pub total : (a b : W) → s.less a b ≡ false → s.less b a ≡ false → a ≡ b
  pub raised : (c a b : W) → s.less a b ≡ true → s.less (s.plus c a) (s.plus c b) ≡ true

-- within n a says that a is a sum of at most n pieces, or as small as one: so is nothing, and sums add up their pieces
pub record Limits {W : Type 0} (s : Scale W) (within : ℕ → W → Type 0) : Type 0 where
  pub none : within 0 s.nothing
  pub sum : (m n : ℕ) (a b : W) → within m a → within n b → within (m + n) (s.plus a b)
  pub more : (m n : ℕ) (a : W) → m ≤ n → within m a → within n a
