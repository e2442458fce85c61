-- Segments of strips of equal height come apart in three stages: between the segments, between the strips of a segment, and between the pieces
-- of a strip.
use Rattle.std.proofs.Common.{◌≡◌, ℕ, ◌+◌, ◌<◌, ◌≤◌, inl, arith}
use Rattle.layout.specs.declared.rect.Span.{Span}
use Rattle.layout.specs.declared.rect.Rect.{Rect}
use Rattle.layout.specs.Apart.{Within, Pieces, all_swapped, Exact, Finished, Apart, ComesApart, Inside, Sized}
use Rattle.layout.specs.Apart.Apart.{done}
use Rattle.layout.specs.Changes.{Solid}
use Rattle.layout.proofs.Laws.{swap_sized}
use Rattle.layout.proofs.Keys.{SameSpan, OneKey, stage, snug, extents}

-- Each piece belongs to a strip of a segment. A later segment begins beyond the end of an earlier one, a higher strip of a segment above the top
-- of a lower one, and the pieces of a strip have one height and stand one after the other, with room for the saw between.
pub record Segments (g : ℕ) (ps : Pieces) (segment strip : ℕ → ℕ) : Type 0 where
  pub apart : (i j : ℕ) → i < ps.count → j < ps.count → segment i < segment j → (ps.place i).along.to + g ≤ (ps.place j).along.from
  pub level : (i j : ℕ) → i < ps.count → j < ps.count → segment i ≡ segment j → strip i < strip j → (ps.place i).across.to + g ≤ (ps.place j).across.from
  pub alike : (i j : ℕ) → i < ps.count → j < ps.count → segment i ≡ segment j → strip i ≡ strip j → SameSpan (ps.place i).across (ps.place j).across
  pub order : (i j : ℕ) → i < j → j < ps.count → segment i ≡ segment j → strip i ≡ strip j → (ps.place i).along.to + g ≤ (ps.place j).along.from

module _ (g : ℕ) (ps : Pieces) (segment strip : ℕ → ℕ) (z : Sized ps) (st : Segments g ps segment strip) where
  -- after the three stages: U between segments, V between strips, Z between pieces
  finish : (U V Z : Span) (across : Span) → Within V across → Within Z U → OneKey ps (record { along = U; across = across }) segment → Solid g (all_swapped ps) (record { along = V; across = U }) → OneKey (all_swapped ps) (record { along = V; across = U }) strip → Solid g ps (record { along = Z; across = V }) → OneKey ps (record { along = Z; across = V }) (λ i. i) → Finished Exact (all_swapped ps) (record { along = V; across = Z })
  finish U V Z across inV inZ one_segment solV one_strip solZ one_piece i j hi hj = (
    one_piece i j (omega arith) (omega arith),
    (
      snug g (all_swapped ps) (record { along = V; across = U }) (swap_sized z) solV i (omega arith)
          (λ k hk. st.alike k i hk.0 hi.0 (one_segment k i (omega arith) (omega arith)) (one_strip k i hk (omega arith))),
      snug g ps (record { along = Z; across = V }) z solZ i (omega arith) (λ k hk. extents ps (one_piece k i hk (omega arith))),
    ),
  )

  pub segments_apart : (R : Rect) → Apart Exact g ps 3 R
  segments_apart R =
      stage g ps z segment R (λ i j hi hj. st.apart i j hi.0 hj.0)
      (λ U inU solU one_segment. stage g (all_swapped ps) (swap_sized z) strip (record { along = R.across; across = U }) (λ i j hi hj. st.level i j hi.0 hj.0 (one_segment i j (omega arith) (omega arith)))
      (λ V inV solV one_strip. stage g ps z (λ i. i) (record { along = U; across = V }) (λ i j hi hj lt. st.order i j lt hj.0 (one_segment i j (omega arith) (omega arith)) (one_strip i j (omega arith) (omega arith)))
      (λ Z inZ solZ one_piece. done (finish U V Z R.across inV inZ one_segment solV one_strip solZ one_piece))))

  -- a plate with its pieces in segments
  pub segments_come_apart : (R : Rect) → ((i : ℕ) → i < ps.count → Inside (ps.place i) R) → ComesApart Exact g 3 R ps
  segments_come_apart R inside = (inside, inl (segments_apart R))
