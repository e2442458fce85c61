-- The pinwheel never comes apart.
use Rattle.std.proofs.Common.{ℕ, zero, suc, ◌+◌, ◌<◌, ◌≤◌, ◌⊎◌, inl, inr, arith}
use native.Mathlib.Decide.{dec_le}
use Rattle.layout.specs.Apart.{Pieces, all_swapped, Holds, ComesApart, Exact, Sized, plate}
use Rattle.layout.specs.Places.{pieces}
use Rattle.layout.proofs.Carrying.{exact_fair}
use Rattle.layout.proofs.Laws.{smaller_saw}
use Rattle.inspection.specs.Pinwheel.{pinwheel_kinds, pinwheel_rows, NeverApart}
use Rattle.inspection.proofs.Stuck.{Stuck, swap_stuck, stuck_never}

abbrev wheel : Pieces
wheel = pieces pinwheel_kinds pinwheel_rows

-- a cut at or beyond the far edge, or at the near one, has all pieces on one side
side : (ps : Pieces) (p : ℕ) → (p < 150 → p ≤ 0) → ((i : ℕ) → Holds ps (plate 150 150) i → (ps.place i).along.to + 0 ≤ p) ⊎ ((i : ℕ) → Holds ps (plate 150 150) i → p ≤ (ps.place i).along.from)
side ps p near = go (dec_le 150 p)
  where
    go : Dec (150 ≤ p) → ((i : ℕ) → Holds ps (plate 150 150) i → (ps.place i).along.to + 0 ≤ p) ⊎ ((i : ℕ) → Holds ps (plate 150 150) i → p ≤ (ps.place i).along.from)
    go (yes far) = inl (λ i h. omega arith)
    go (no less) = inr (λ i h. omega (arith, near (omega arith)))

stuck : Stuck 0 wheel (plate 150 150)
stuck = record {
  one = 0;
  two = 1;
  one_held = omega arith;
  two_held = omega arith;
  differ = λ e. omega arith;
  length_whole = λ p c. side wheel p (λ lt. omega (arith, c 0 (omega arith), c 1 (omega arith), c 2 (omega arith), c 3 (omega arith), c 4 (omega arith)));
  width_whole = λ p c. side (all_swapped wheel) p (λ lt. omega (arith, c 0 (omega arith), c 1 (omega arith), c 2 (omega arith), c 3 (omega arith), c 4 (omega arith)));
}

-- each piece has some length and some width
sized : Sized wheel
sized zero lt = (omega arith, omega arith)
sized (suc zero) lt = (omega arith, omega arith)
sized (suc (suc zero)) lt = (omega arith, omega arith)
sized (suc (suc (suc zero))) lt = (omega arith, omega arith)
sized (suc (suc (suc (suc zero)))) lt = (omega arith, omega arith)
sized (suc (suc (suc (suc (suc i))))) lt = absurd (omega arith)

whole : (s : ℕ) → ComesApart Exact 0 s (plate 150 150) wheel → ⊥
whole s (inside, inl a) = stuck_never (plate 150 150) stuck (λ i h. h.1) a
whole s (inside, inr a) = stuck_never (plate 150 150) (swap_stuck stuck) (λ i h. h.1) a

pub never_apart : NeverApart
never_apart g s a = whole s (smaller_saw exact_fair g 0 s (plate 150 150) wheel (omega arith) sized a)
