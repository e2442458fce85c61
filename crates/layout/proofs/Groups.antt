-- To show that a part comes apart, look at its solid slices only: all other cuts of the stage can be made.
use Rattle.std.proofs.Common.{◌≡◌, ℕ, zero, suc, ◌+◌, ◌<◌, ◌≤◌, ◌⊎◌, subst, inl, inr, arith}
use native.Mathlib.Decide.{dec_le, ℕ_discrete}
use Rattle.layout.specs.declared.rect.Span.{Span}
use Rattle.layout.specs.declared.rect.Rect.{Rect}
use Rattle.layout.specs.Apart.{swapped, Within, Inside, Pieces, all_swapped, Holds, Clear, before, after, Apart, Sized}
use Rattle.layout.specs.Apart.Apart.{cut, next}
use Rattle.layout.specs.Changes.{slice, Solid}
use Rattle.layout.proofs.Laws.{nothing}

-- a bounded search
pub some_below : {P : ℕ → Type 0} → ((k : ℕ) → Dec (P k)) → (n : ℕ) → ((k : ℕ) × (k < n) × P k) ⊎ ((k : ℕ) → k < n → P k → ⊥)
some_below test zero = inr (λ k lt _. omega arith)
some_below {P} test (suc n) = go (test n) (some_below test n)
  where
    go : Dec (P n) → ((k : ℕ) × (k < n) × P k) ⊎ ((k : ℕ) → k < n → P k → ⊥) → ((k : ℕ) × (k < suc n) × P k) ⊎ ((k : ℕ) → k < suc n → P k → ⊥)
    go (yes here) _ = inl (n, omega arith, here)
    go (no _) (inl (k, lt, there)) = inl (k, omega arith, there)
    go (no not_here) (inr none) = inr (λ k lt h. both k lt h (ℕ_discrete k n))
      where
        both : (k : ℕ) → k < suc n → P k → Dec (k ≡ n) → ⊥
        both k lt h (yes e) = not_here (subst P e h)
        both k lt h (no ne) = none k (omega arith) h

pub both_dec : {A B : Type 0} → Dec A → Dec B → Dec (A × B)
both_dec (yes a) (yes b) = yes (a, b)
both_dec (yes a) (no nb) = no (λ h. nb h.1)
both_dec (no na) d = no (λ h. na h.0)

module _ (g : ℕ) (ps : Pieces) (R : Rect) where
  pub inside_dec : (i : ℕ) → Dec (Inside (ps.place i) R)
  inside_dec i = both_dec (both_dec (dec_le _ _) (dec_le _ _)) (both_dec (dec_le _ _) (dec_le _ _))

  clear_dec : (p : ℕ) → Dec (Clear g ps R p)
  clear_dec p = go (some_below (λ i. both_dec (inside_dec i) (both_dec (dec_le (suc p) ((ps.place i).along.to + g)) (dec_le (suc (ps.place i).along.from) p))) ps.count)
    where
      Met : ℕ → Type 0
      Met i = Inside (ps.place i) R × ((p < (ps.place i).along.to + g) × ((ps.place i).along.from < p))

      free : ((i : ℕ) → i < ps.count → Met i → ⊥) → (i : ℕ) → Holds ps R i → Dec ((ps.place i).along.to + g ≤ p) → Dec (p ≤ (ps.place i).along.from) → ((ps.place i).along.to + g ≤ p) ⊎ (p ≤ (ps.place i).along.from)
      free none i h (yes le) _ = inl le
      free none i h (no _) (yes le) = inr le
      free none i h (no a) (no b) = absurd (none i h.0 (h.1, (omega arith, omega arith)))

      go : ((i : ℕ) × (i < ps.count) × Met i) ⊎ ((i : ℕ) → i < ps.count → Met i → ⊥) → Dec (Clear g ps R p)
      go (inl (i, lt, met)) = no (λ c. omega (arith, c i (lt, met.0), met.1.0, met.1.1))
      go (inr none) = yes (λ i h. free none i h (dec_le _ _) (dec_le _ _))

-- one stage by solid slices; n bounds the length of the part
pub by_groups : {test : Rect → Rect → Type 0} {g : ℕ} {ps : Pieces} {s : ℕ} (n : ℕ) (R : Rect) → R.along.to ≤ R.along.from + n → Sized ps → ((U : Span) → Within U R.along → Solid g ps (slice U R) → Apart test g (all_swapped ps) s (swapped (slice U R))) → Apart test g ps (suc s) R
by_groups {ps = ps} zero R short z each = nothing (λ i h. omega (arith, z i h.0))
by_groups {g = g} {ps = ps} {s = s} (suc n) R short z each =
    elim (some_below (λ p. both_dec (dec_le (suc R.along.from) p) (clear_dec g ps R p)) (R.along.to + g)) [
      | inl found ↦
          cut found.0 found.2.1
          (by_groups n (before g found.0 R) (omega (arith, found.1, found.2.0)) z (λ U w sol. each U (omega arith) sol))
          (by_groups n (after found.0 R) (omega (arith, found.1, found.2.0)) z (λ U w sol. each U (omega arith) sol))
      | inr none ↦ next (each R.along (omega arith) (λ p c. solid none p c (dec_le _ _) (dec_le _ _)))
    ]
  where
    solid : ((p : ℕ) → p < R.along.to + g → (R.along.from < p) × Clear g ps R p → ⊥) → (p : ℕ) → Clear g ps R p → Dec (R.along.to + g ≤ p) → Dec (p ≤ R.along.from) → (R.along.to + g ≤ p) ⊎ (p ≤ R.along.from)
    solid none p c (yes le) _ = inl le
    solid none p c (no _) (yes le) = inr le
    solid none p c (no a) (no b) = absurd (none p (omega arith) (omega arith, c))
