-- A part that no cut divides never comes apart.
use Rattle.std.proofs.Common.{◌≡◌, ℕ, ◌+◌, ◌≤◌, ◌⊎◌, inl, inr, arith}
use Rattle.layout.specs.declared.rect.Rect.{Rect}
use Rattle.layout.specs.Apart.{swapped, Inside, Pieces, all_swapped, Holds, Clear, Apart}
use Rattle.layout.specs.Apart.Apart.{done, cut, next}

-- all pieces of R lie on one side of each clear cut
abbrev pub OneSide : ℕ → Pieces → Rect → Type 0
OneSide g ps R = (p : ℕ) → Clear g ps R p → ((i : ℕ) → Holds ps R i → (ps.place i).along.to + g ≤ p) ⊎ ((i : ℕ) → Holds ps R i → p ≤ (ps.place i).along.from)

-- two pieces or more, and no cut in either direction with a piece on each side
pub record Stuck (g : ℕ) (ps : Pieces) (R : Rect) : Type 0 where
  pub one : ℕ
  pub two : ℕ
  pub one_held : Holds ps R one
  pub two_held : Holds ps R two
  pub differ : one ≡ two → ⊥
  pub length_whole : OneSide g ps R
  pub width_whole : OneSide g (all_swapped ps) (swapped R)

pub swap_stuck : {g : ℕ} {ps : Pieces} {R : Rect} → Stuck g ps R → Stuck g (all_swapped ps) (swapped R)
swap_stuck k = record {
  one = k.one;
  two = k.two;
  one_held = (k.one_held.0, (k.one_held.1.1, k.one_held.1.0));
  two_held = (k.two_held.0, (k.two_held.1.1, k.two_held.1.0));
  differ = k.differ;
  length_whole = k.width_whole;
  width_whole = k.length_whole;
}

-- R is stuck, and its pieces are all in Q: then Q never comes apart, whatever the test for a finished part
pub stuck_never : {test : Rect → Rect → Type 0} {g : ℕ} {ps : Pieces} {s : ℕ} {Q : Rect} (R : Rect) → Stuck g ps R → ((i : ℕ) → Holds ps R i → Inside (ps.place i) Q) → Apart test g ps s Q → ⊥
stuck_never R k keep (done f) = k.differ (f k.one k.two (k.one_held.0, keep k.one k.one_held) (k.two_held.0, keep k.two k.two_held)).0
stuck_never R k keep (next a) = stuck_never (swapped R) (swap_stuck k) (λ i h. let w = keep i (h.0, (h.1.1, h.1.0)) in (w.1, w.0)) a
stuck_never R k keep (cut p c a b) =
    elim (k.length_whole p (λ i h. c i (h.0, keep i h))) [
      | inl all ↦ stuck_never R k (λ i h. let w = keep i h in let e = all i h in (omega arith)) a
      | inr all ↦ stuck_never R k (λ i h. let w = keep i h in let e = all i h in (omega arith)) b
    ]
