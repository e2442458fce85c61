-- One stage at a time: give each piece a key (its segment, its strip, its own number) so that a piece of a lower key ends before one of a
-- higher key begins. Then the stage leaves parts of one key each.
use Rattle.std.proofs.Common.{◌≡◌, ℕ, zero, suc, ◌+◌, ◌<◌, ◌≤◌, ap, inl, inr, arith}
use native.Mathlib.Decide.{dec_le, dec_lt}
use Rattle.layout.specs.declared.rect.Span.{Span}
use Rattle.layout.specs.declared.rect.Rect.{Rect}
use Rattle.layout.specs.Apart.{swapped, Within, Inside, Pieces, all_swapped, Holds, Clear, Apart, Sized}
use Rattle.layout.specs.Changes.{slice, Solid}
use Rattle.layout.proofs.Groups.{some_below, both_dec, inside_dec, by_groups}

-- of those below n for which P holds, one with the least f
record Least (P : ℕ → Type 0) (f : ℕ → ℕ) (n : ℕ) : Type 0 where
  which : ℕ
  below : which < n
  good : P which
  least : (k : ℕ) → k < n → P k → f which ≤ f k

-- the search for it, with fuel for how far f can still fall
find_least : (P : ℕ → Type 0) → ((k : ℕ) → Dec (P k)) → (f : ℕ → ℕ) (n fuel : ℕ) (j : ℕ) → j < n → P j → f j ≤ fuel → Least P f n
find_least P test f n zero j lt good le = record { which = j; below = lt; good = good; least = λ k _ _. omega arith }
find_least P test f n (suc fuel) j lt good le =
    elim (some_below (λ k. both_dec (test k) (dec_lt (f k) (f j))) n) [
      | inl found ↦ find_least P test f n fuel found.0 found.1 found.2.0 (omega (arith, found.2.1))
      | inr none ↦ record { which = j; below = lt; good = good; least = λ k kl p. not_lt (f j) (f k) (λ lower. none k kl (p, lower)) }
    ]
  where
    not_lt : (a b : ℕ) → (b < a → ⊥) → a ≤ b
    not_lt a b h = elim (dec_le a b) [ yes le ↦ le | no gt ↦ absurd (h (omega arith)) ]

-- no clear cut passes between two pieces of a solid part
parted : (g : ℕ) (ps : Pieces) (S : Rect) → Sized ps → Solid g ps S → (i j : ℕ) → Holds ps S i → Holds ps S j → (p : ℕ) → Clear g ps S p → (ps.place i).along.to + g ≤ p → p ≤ (ps.place j).along.from → ⊥
parted g ps S z sol i j hi hj p c before_p beyond_p = omega (arith, sol p c, z i hi.0, z j hj.0)

-- the pieces of the part are in the order of their keys
abbrev pub Keyed : ℕ → Pieces → Rect → (ℕ → ℕ) → Type 0
Keyed g ps R key = (i j : ℕ) → Holds ps R i → Holds ps R j → key i < key j → (ps.place i).along.to + g ≤ (ps.place j).along.from

-- the pieces of the part have one key
abbrev pub OneKey : Pieces → Rect → (ℕ → ℕ) → Type 0
OneKey ps R key = (i j : ℕ) → Holds ps R i → Holds ps R j → key i ≡ key j

module _ (g : ℕ) (ps : Pieces) (z : Sized ps) (key : ℕ → ℕ) where
  never_lower : (S : Rect) → Keyed g ps S key → Solid g ps S → (i j : ℕ) → Holds ps S i → Holds ps S j → key i < key j → ⊥
  never_lower S keyed sol i j hi hj lt =
      let m = find_least (λ k. Inside (ps.place k) S × (key j ≤ key k)) (λ k. both_dec (inside_dec g ps S k) (dec_le _ _)) (λ k. (ps.place k).along.from) ps.count (ps.place j).along.from j hj.0 (hj.1, omega arith) (omega arith) in
      let held : Holds ps S m.which = (m.below, m.good.0) in
      parted g ps S z sol i m.which hi held (ps.place m.which).along.from
      (λ k hk. elim (dec_le (key j) (key k)) [
        | yes le ↦ inr (m.least k hk.0 (hk.1, le))
        | no gt ↦ inl (keyed k m.which hk held (omega (arith, m.good.1)))
      ])
      (keyed i m.which hi held (omega (arith, m.good.1)))
      (omega arith)

  one_key : (S : Rect) → Keyed g ps S key → Solid g ps S → OneKey ps S key
  one_key S keyed sol i j hi hj = go (dec_lt (key i) (key j)) (dec_lt (key j) (key i))
    where
      go : Dec (key i < key j) → Dec (key j < key i) → key i ≡ key j
      go (yes lt) _ = absurd (never_lower S keyed sol i j hi hj lt)
      go (no _) (yes gt) = absurd (never_lower S keyed sol j i hj hi gt)
      go (no a) (no b) = omega arith

  -- one stage by keys
  pub stage : {test : Rect → Rect → Type 0} {s : ℕ} (R : Rect) → Keyed g ps R key → ((U : Span) → Within U R.along → Solid g ps (slice U R) → OneKey ps (slice U R) key → Apart test g (all_swapped ps) s (swapped (slice U R))) → Apart test g ps (suc s) R
  stage R keyed rest =
      by_groups R.along.to R (omega arith) z
      (λ U w sol. rest U w sol (one_key (slice U R) (λ i j hi hj. keyed i j (omega arith) (omega arith)) sol))

-- two extents with the same ends
abbrev pub SameSpan : Span → Span → Type 0
SameSpan U V = (U.from ≡ V.from) × (U.to ≡ V.to)

-- a solid part whose pieces all have the extent of the piece i has nothing beside them
pub snug : (g : ℕ) (ps : Pieces) (S : Rect) → Sized ps → Solid g ps S → (i : ℕ) → Holds ps S i → ((j : ℕ) → Holds ps S j → SameSpan (ps.place j).along (ps.place i).along) → SameSpan S.along (ps.place i).along
snug g ps S z sol i hi alike = (
  omega (arith, sol (ps.place i).along.from (λ j hj. inr (omega (arith, alike j hj))), z i hi.0),
  omega (arith, sol ((ps.place i).along.to + g) (λ j hj. inl (omega (arith, alike j hj))), z i hi.0),
)

pub extents : (ps : Pieces) {i j : ℕ} → i ≡ j → SameSpan (ps.place i).along (ps.place j).along
extents ps e = (ap (λ (k : ℕ). (ps.place k).along.from) e, ap (λ (k : ℕ). (ps.place k).along.to) e)
