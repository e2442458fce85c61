-- The laws of coming apart: the axes exchanged, more stages, a smaller saw width, a part of a part with some of its pieces, pieces moved inside a
-- larger plate, pieces that carry their saw cut with them, and an easier test.
use Rattle.std.proofs.Common.{◌≡◌, ℕ, zero, suc, ◌+◌, ◌-◌, ◌*◌, ◌<◌, ◌≤◌, ◌⊎◌, refl, subst, inl, inr, add-zero, suc-add, zero-add, arith}
use Rattle.layout.specs.declared.rect.Span.{Span}
use Rattle.layout.specs.declared.rect.Rect.{Rect}
use Rattle.layout.specs.Apart.{swapped, Within, Inside, Pieces, all_swapped, Holds, Clear, before, after, Apart, ComesApart, plate, Sized}
use Rattle.layout.specs.Apart.Apart.{done, cut, next}
use Rattle.layout.specs.Changes.{shift, moved, enlarged}
use Rattle.layout.proofs.Carrying.{Carries, Fair, carry}

pub swap_sized : {ps : Pieces} → Sized ps → Sized (all_swapped ps)
swap_sized z i lt = ((z i lt).1, (z i lt).0)

module _ {test : Rect → Rect → Type 0} where
  -- a part that holds nothing
  pub nothing : {g : ℕ} {ps : Pieces} {s : ℕ} {R : Rect} → ((i : ℕ) → Holds ps R i → ⊥) → Apart test g ps s R
  nothing none = done (λ i j hi hj. absurd (none i hi))

  -- length and width exchanged
  pub exchange : (g s : ℕ) (R : Rect) (ps : Pieces) → ComesApart test g s R ps → ComesApart test g s (swapped R) (all_swapped ps)
  exchange g s R ps (inside, inl a) = (λ i h. ((inside i h).1, (inside i h).0), inr a)
  exchange g s R ps (inside, inr a) = (λ i h. ((inside i h).1, (inside i h).0), inl a)

  one_more : {g : ℕ} {ps : Pieces} {s : ℕ} {R : Rect} → Apart test g ps s R → Apart test g ps (suc s) R
  one_more (done f) = done f
  one_more (cut p c a b) = cut p c (one_more a) (one_more b)
  one_more (next a) = next (one_more a)

  -- more stages of a part
  pub more : {g : ℕ} {ps : Pieces} {s : ℕ} {R : Rect} (k : ℕ) → Apart test g ps s R → Apart test g ps (k + s) R
  more {s = s} zero a = rw zero-add a
  more {s = s} (suc k) a = rw suc-add (one_more (more k a))

  -- more stages of a plate
  pub more_stages : (g s n : ℕ) (R : Rect) (ps : Pieces) → s ≤ n → ComesApart test g s R ps → ComesApart test g n R ps
  more_stages g s n R ps le (inside, either) = (inside, go either)
    where
      enough : n - s + s ≡ n
      enough = omega arith

      go : Apart test g ps s R ⊎ Apart test g (all_swapped ps) s (swapped R) → Apart test g ps n R ⊎ Apart test g (all_swapped ps) n (swapped R)
      go (inl a) = inl (subst (λ (k : ℕ). Apart test g ps k R) enough (more (n - s) a))
      go (inr a) = inr (subst (λ (k : ℕ). Apart test g (all_swapped ps) k (swapped R)) enough (more (n - s) a))

  -- an easier test
  pub easier : {other : Rect → Rect → Type 0} → ((R Q : Rect) → test R Q → other R Q) → {g : ℕ} {ps : Pieces} {s : ℕ} {R : Rect} → Apart test g ps s R → Apart other g ps s R
  easier weaker {ps = ps} {R = R} (done f) = done (λ i j hi hj. let e = f i j hi hj in (e.0, weaker R (ps.place i) e.1))
  easier weaker (cut p c a b) = cut p c (easier weaker a) (easier weaker b)
  easier weaker (next a) = next (easier weaker a)

-- The pieces qs are some of ps, each in its place: qs's piece i is ps's piece pick i.
pub record SomeOf (ps qs : Pieces) : Type 0 where
  pub pick : ℕ → ℕ
  pub known : (i : ℕ) → i < qs.count → pick i < ps.count
  pub apart : (i j : ℕ) → i < qs.count → j < qs.count → pick i ≡ pick j → i ≡ j
  pub stays : (i : ℕ) → i < qs.count → Inside (qs.place i) (ps.place (pick i)) × Inside (ps.place (pick i)) (qs.place i)

pub all_of : {ps : Pieces} → SomeOf ps ps
all_of = record { pick = λ i. i; known = λ i lt. lt; apart = λ i j _ _ e. e; stays = λ i lt. (omega arith, omega arith) }

same_place : (Q P : Rect) → Q ≡ P → Inside Q P × Inside P Q
same_place Q P e = subst (λ (R : Rect). Inside Q R × Inside R Q) e (omega arith, omega arith)

carries_some : {ps qs : Pieces} → SomeOf ps qs → Carries 0 0 ps qs
carries_some some = record {
  pick = some.pick;
  known = some.known;
  apart = some.apart;
  along = λ i lt. let e = some.stays i lt in record { start = omega arith; stop = omega arith; some = inl refl };
  across = λ i lt. let e = some.stays i lt in record { start = omega arith; stop = omega arith; some = inl refl };
}

carries_moved : (t : ℕ) (ps : Pieces) → Carries t 0 ps (moved t ps)
carries_moved t ps = record {
  pick = λ i. i;
  known = λ i lt. lt;
  apart = λ i j _ _ e. e;
  along = λ i lt. record { start = refl; stop = omega arith; some = inl refl };
  across = λ i lt. record { start = refl; stop = omega arith; some = inl refl };
}

carries_enlarged : (h : ℕ) (ps : Pieces) → Sized ps → Carries 0 h (enlarged h ps) ps
carries_enlarged h ps z = record {
  pick = λ i. i;
  known = λ i lt. lt;
  apart = λ i j _ _ e. e;
  along = λ i lt. record { start = omega arith; stop = omega arith; some = inr (omega (arith, z i lt)) };
  across = λ i lt. record { start = omega arith; stop = omega arith; some = inr (omega (arith, z i lt)) };
}

module _ {test : Rect → Rect → Type 0} (fair : Fair test) where
  -- a part S of the part R, with some of its pieces
  pub some_pieces : {g : ℕ} {ps qs : Pieces} {s : ℕ} {R S : Rect} → SomeOf ps qs → Inside S R → Apart test g ps s R → Apart test g qs s S
  some_pieces {S = S} some h a = rw add-zero at (carry fair {S = S} (carries_some some) (omega arith) a)

  -- a part S of the part R, with all pieces that lie in it
  pub restrict : {g : ℕ} {ps : Pieces} {s : ℕ} {R S : Rect} → Inside S R → Apart test g ps s R → Apart test g ps s S
  restrict h a = some_pieces all_of h a

  -- pieces in the same places
  pub same_places : (g s : ℕ) (R : Rect) (ps qs : Pieces) → qs.count ≡ ps.count → ((i : ℕ) → i < qs.count → qs.place i ≡ ps.place i) → ComesApart test g s R ps → ComesApart test g s R qs
  same_places g s R ps qs many same (inside, either) = (λ i lt. let e = same_place (qs.place i) (ps.place i) (same i lt) in let h = inside i (omega arith) in omega arith, go either)
    where
      stay : SomeOf ps qs
      stay = record { pick = λ i. i; known = λ i lt. omega arith; apart = λ i j _ _ e. e; stays = λ i lt. same_place (qs.place i) (ps.place i) (same i lt) }

      stay_swapped : SomeOf (all_swapped ps) (all_swapped qs)
      stay_swapped = record { pick = λ i. i; known = λ i lt. omega arith; apart = λ i j _ _ e. e; stays = λ i lt. let e = same_place (qs.place i) (ps.place i) (same i lt) in ((e.0.1, e.0.0), (e.1.1, e.1.0)) }

      go : Apart test g ps s R ⊎ Apart test g (all_swapped ps) s (swapped R) → Apart test g qs s R ⊎ Apart test g (all_swapped qs) s (swapped R)
      go (inl a) = inl (some_pieces stay (omega arith) a)
      go (inr a) = inr (some_pieces stay_swapped (omega arith) a)

  -- A smaller saw width of a part. One cut of width g at p becomes two: the second takes what the first leaves of its width.
  pub thinner : {g : ℕ} {ps : Pieces} {s : ℕ} {R : Rect} (k : ℕ) → k ≤ g → Sized ps → Apart test g ps s R → Apart test k ps s R
  thinner k le z (done f) = done f
  thinner k le z (next a) = next (thinner k le (swap_sized z) a)
  thinner {g} {ps} {R = R} k le z (cut p c a b) =
      cut p wide (cut (p - g + k) left (restrict (omega arith) (thinner k le z a)) (nothing between)) (thinner k le z b)
    where
      wide : Clear k ps R p
      wide i h = elim (c i h) [ inl e ↦ inl (omega arith) | inr e ↦ inr e ]

      in_R : (i : ℕ) → Holds ps (before k p R) i → Holds ps R i
      in_R i h = (omega arith)

      left : Clear k ps (before k p R) (p - g + k)
      left i h = elim (c i (in_R i h)) [ inl e ↦ inl (omega arith) | inr e ↦ absurd (omega (arith, z i h.0)) ]

      between : (i : ℕ) → Holds ps (after (p - g + k) (before k p R)) i → ⊥
      between i h = omega (arith, c i (omega arith), z i h.0)

  -- a smaller saw width of a plate
  pub smaller_saw : (g k s : ℕ) (R : Rect) (ps : Pieces) → k ≤ g → Sized ps → ComesApart test g s R ps → ComesApart test k s R ps
  smaller_saw g k s R ps le z (inside, inl a) = (inside, inl (thinner k le z a))
  smaller_saw g k s R ps le z (inside, inr a) = (inside, inr (thinner k le (swap_sized z) a))

  -- room to both sides of what the pieces take up in the direction of the stage
  pub widen : {g : ℕ} {ps : Pieces} {s : ℕ} {R : Rect} (U : Span) → Sized ps → ((i : ℕ) → Holds ps R i → Within (ps.place i).along U) → Apart test g ps (suc s) (record { along = U; across = R.across }) → Apart test g ps (suc s) R
  widen {g} {ps} {s} {R} U z room a =
      cut U.from (λ i h. inr (room i h).0) (nothing low) (cut (U.to + g) (λ i h. inl (omega (arith, room i (in_R i h)))) (restrict (omega arith) a) (nothing high))
    where
      in_R : (i : ℕ) → Holds ps (after U.from R) i → Holds ps R i
      in_R i h = (omega arith)

      low : (i : ℕ) → Holds ps (before g U.from R) i → ⊥
      low i h = omega (arith, room i (omega arith), z i h.0)

      high : (i : ℕ) → Holds ps (after (U.to + g) (after U.from R)) i → ⊥
      high i h = omega (arith, room i (omega arith), z i h.0)

  -- a border around all pieces costs one stage more, in the direction that did not come first
  pub border : {g : ℕ} {ps : Pieces} {s : ℕ} (R S : Rect) → Sized ps → ((i : ℕ) → i < ps.count → Inside (ps.place i) S) → Apart test g ps (suc s) S → Apart test g (all_swapped ps) (suc (suc s)) (swapped R)
  border R S z room a =
      widen S.across (swap_sized z) (λ i h. (room i h.0).1) (next (widen S.along z (λ i h. (room i h.0).0) a))

  -- all pieces moved by t inside a plate larger by 2t: one stage more, at any saw width
  pub trimmed : (g s t L W : ℕ) (ps : Pieces) → Sized ps → ComesApart test g (suc s) (plate (L - 2 * t) (W - 2 * t)) ps → ComesApart test g (suc (suc s)) (plate L W) (moved t ps)
  trimmed g s t L W ps z (inside, either) = (λ i lt. fits i lt, go either)
    where
      inner : Rect
      inner = record { along = shift t (record { from = 0; to = L - 2 * t }); across = shift t (record { from = 0; to = W - 2 * t }) }

      fits : (i : ℕ) → i < ps.count → Inside ((moved t ps).place i) (plate L W)
      fits i lt = let a = inside i lt in let b = z i lt in (omega arith)

      sized : Sized (moved t ps)
      sized i lt = let b = z i lt in (omega arith, omega arith)

      room : (i : ℕ) → i < ps.count → Inside ((moved t ps).place i) inner
      room i lt = let a = inside i lt in (omega arith)

      go : Apart test g ps (suc s) (plate (L - 2 * t) (W - 2 * t)) ⊎ Apart test g (all_swapped ps) (suc s) (swapped (plate (L - 2 * t) (W - 2 * t))) → Apart test g (moved t ps) (suc (suc s)) (plate L W) ⊎ Apart test g (all_swapped (moved t ps)) (suc (suc s)) (swapped (plate L W))
      go (inl a) = inr (border (plate L W) inner sized room (rw add-zero at (carry fair {S = inner} (carries_moved t ps) (omega arith) a)))
      go (inr a) = inl (border (swapped (plate L W)) (swapped inner) (swap_sized sized) (λ i lt. ((room i lt).1, (room i lt).0)) (rw add-zero at (carry fair {S = swapped inner} (carries_moved t (all_swapped ps)) (omega arith) a)))

  -- pieces and plate enlarged by h at saw width g: without the enlargement the saw width is g + h
  pub sawn : (g s h L W : ℕ) (ps : Pieces) → Sized ps → ComesApart test g s (plate (L + h) (W + h)) (enlarged h ps) → ComesApart test (g + h) s (plate L W) ps
  sawn g s h L W ps z (inside, either) = (λ i lt. let a = inside i lt in (omega arith), go either)
    where
      go : Apart test g (enlarged h ps) s (plate (L + h) (W + h)) ⊎ Apart test g (all_swapped (enlarged h ps)) s (swapped (plate (L + h) (W + h))) → Apart test (g + h) ps s (plate L W) ⊎ Apart test (g + h) (all_swapped ps) s (swapped (plate L W))
      go (inl a) = inl (carry fair (carries_enlarged h ps z) (omega arith) a)
      go (inr a) = inr (carry fair (carries_enlarged h (all_swapped ps) (swap_sized z)) (omega arith) a)
