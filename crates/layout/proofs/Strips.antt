-- Pieces in strips come apart in three stages: between the strips, between the pieces of a strip, and around each piece.
use Rattle.std.proofs.Common.{◌≡◌, ℕ, ◌+◌, ◌<◌, ◌≤◌, inr, arith}
use Rattle.layout.specs.declared.rect.Span.{Span}
use Rattle.layout.specs.declared.rect.Rect.{Rect}
use Rattle.layout.specs.Apart.{swapped, Within, Pieces, all_swapped, Exact, Finished, Apart, ComesApart, Inside, Sized}
use Rattle.layout.specs.Apart.Apart.{done}
use Rattle.layout.specs.Changes.{Solid}
use Rattle.layout.proofs.Laws.{swap_sized}
use Rattle.layout.proofs.Keys.{OneKey, stage, snug, extents}

-- Each piece belongs to a strip. A higher strip begins above the top of a lower one, and the pieces of a strip stand one after the other, with
-- room for the saw between.
pub record Strips (g : ℕ) (ps : Pieces) (strip : ℕ → ℕ) : Type 0 where
  pub level : (i j : ℕ) → i < ps.count → j < ps.count → strip i < strip j → (ps.place i).across.to + g ≤ (ps.place j).across.from
  pub order : (i j : ℕ) → i < j → j < ps.count → strip i ≡ strip j → (ps.place i).along.to + g ≤ (ps.place j).along.from

module _ (g : ℕ) (ps : Pieces) (strip : ℕ → ℕ) (z : Sized ps) (st : Strips g ps strip) where
  -- after the three stages: U between the strips, V between the pieces of a strip, Z around a piece
  finish : (U V Z : Span) → Within Z U → Solid g ps (record { along = V; across = U }) → OneKey ps (record { along = V; across = U }) (λ i. i) → Solid g (all_swapped ps) (record { along = Z; across = V }) → Finished Exact ps (record { along = V; across = Z })
  finish U V Z inZ solV one_piece solZ i j hi hj = (
    one_piece i j (omega arith) (omega arith),
    (
      snug g ps (record { along = V; across = U }) z solV i (omega arith) (λ k hk. extents ps (one_piece k i hk (omega arith))),
      snug g (all_swapped ps) (record { along = Z; across = V }) (swap_sized z) solZ i (omega arith) (λ k hk. extents (all_swapped ps) (one_piece k i (omega arith) (omega arith))),
    ),
  )

  pub strips_apart : (R : Rect) → Apart Exact g (all_swapped ps) 3 (swapped R)
  strips_apart R =
      stage g (all_swapped ps) (swap_sized z) strip (swapped R) (λ i j hi hj. st.level i j hi.0 hj.0)
      (λ U inU solU one_strip. stage g ps z (λ i. i) (record { along = R.along; across = U }) (λ i j hi hj lt. st.order i j lt hj.0 (one_strip i j (omega arith) (omega arith)))
      (λ V inV solV one_piece. stage g (all_swapped ps) (swap_sized z) (λ i. 0) (record { along = U; across = V }) (λ i j hi hj lt. omega arith)
      (λ Z inZ solZ _. done (finish U V Z inZ solV one_piece solZ))))

  -- a plate with its pieces in strips
  pub strips_come_apart : (R : Rect) → ((i : ℕ) → i < ps.count → Inside (ps.place i) R) → ComesApart Exact g 3 R ps
  strips_come_apart R inside = (inside, inr (strips_apart R))
