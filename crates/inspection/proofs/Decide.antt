-- To decide whether a part comes apart, make every cut of a stage: nothing is lost by it.
use Rattle.std.proofs.Common.{◌≡◌, ℕ, zero, suc, ◌+◌, ◌-◌, ◌<◌, ◌≤◌, Bool, true, false, ◌⊎◌, Decides, refl, subst, inl, inr, arith}
use Rattle.std.proofs.lemmas.Bool.Decides.{not_from_Decides}
use Rattle.layout.specs.declared.rect.Span.{Span}
use Rattle.layout.specs.declared.rect.Rect.{Rect}
use Rattle.layout.specs.Apart.{swapped, Within, Inside, Pieces, all_swapped, Holds, Clear, before, after, Exact, Finished, Apart, Sized}
use Rattle.layout.specs.Apart.Apart.{done, cut, next}
use Rattle.layout.specs.Changes.{slice, Solid}
use Rattle.layout.proofs.Carrying.{exact_fair}
use Rattle.layout.proofs.Laws.{restrict, nothing}
use Rattle.inspection.specs.Groups.{Group, HoldsNone}

-- A solid part of a part stays whole in this stage, so it comes apart in the stages that are left after it.
pub solid_rest : {g : ℕ} {ps : Pieces} {s : ℕ} {R S : Rect} → Solid g ps S → Inside S R → Apart Exact g ps (suc s) R → Apart Exact g (all_swapped ps) s (swapped S)
solid_rest {ps = ps} {s = s} {R = R} {S = S} sol in_R (done f) =
    done (λ i j hi hj. let e = f i j (up i hi) (up j hj) in (e.0, ((omega arith, omega arith), (omega arith, omega arith))))
  where
    up : (i : ℕ) → Holds (all_swapped ps) (swapped S) i → Holds ps R i
    up i h = (omega arith)
solid_rest sol in_R (next a) = restrict exact_fair (in_R.1, in_R.0) a
solid_rest {g} {ps} {s} {R} {S} sol in_R (cut p c a b) =
    elim (sol p (λ i h. c i (omega arith))) [
      | inl e ↦ solid_rest sol (omega arith) a
      | inr e ↦ solid_rest sol (omega arith) b
    ]

-- each piece that R holds lies in the extent U or begins beyond it, with room for the saw between
abbrev pub First : ℕ → Pieces → Rect → Span → Type 0
First g ps R U = (i : ℕ) → Holds ps R i → Within (ps.place i).along U ⊎ (U.to + g ≤ (ps.place i).along.from)

-- The first slice cut off: it goes on in the other direction, and what is beyond it goes on in this stage.
pub cut_off : {g : ℕ} {ps : Pieces} {s : ℕ} {R : Rect} (U : Span) → Sized ps → U.from ≤ U.to → First g ps R U → Apart Exact g (all_swapped ps) s (swapped (slice U R)) → Apart Exact g ps (suc s) (after (U.to + g) R) → Apart Exact g ps (suc s) R
cut_off {g} {ps} {s} {R} U z le fst a b =
    cut U.from at_low (nothing low) (cut (U.to + g) at_high (next (restrict exact_fair (omega arith) a)) (restrict exact_fair (omega arith) b))
  where
    at_low : Clear g ps R U.from
    at_low i h = elim (fst i h) [ inl w ↦ inr w.0 | inr e ↦ inr (omega arith) ]

    low : (i : ℕ) → Holds ps (before g U.from R) i → ⊥
    low i h = omega (arith, fst i (omega arith), z i h.0)

    at_high : Clear g ps (after U.from R) (U.to + g)
    at_high i h = elim (fst i (omega arith)) [ inl w ↦ inl (omega arith) | inr e ↦ inr e ]

-- a piece is solid
pub piece_solid : (g : ℕ) (ps : Pieces) (R : Rect) (i : ℕ) → Holds ps R i → Solid g ps (slice (ps.place i).along R)
piece_solid g ps R i h p c = c i (omega arith)

-- A solid slice grows by a piece that begins before a cut right after the slice would end, and is solid again.
pub solid_grows : (g : ℕ) (ps : Pieces) (R : Rect) (U : Span) (i : ℕ) → Solid g ps (slice U R) → U.to ≤ (ps.place i).along.to → U.from ≤ (ps.place i).along.from → (ps.place i).along.from < U.to + g → Holds ps R i → Solid g ps (slice (record { from = U.from; to = (ps.place i).along.to }) R)
solid_grows g ps R U i sol le lo lt h p c = go (sol p (λ j hj. c j (hj.0, ((omega arith, omega arith), hj.1.1)))) (c i (omega arith))
  where
    go : (U.to + g ≤ p) ⊎ (p ≤ U.from) → ((ps.place i).along.to + g ≤ p) ⊎ (p ≤ (ps.place i).along.from) → ((ps.place i).along.to + g ≤ p) ⊎ (p ≤ U.from)
    go (inl e) (inl f) = inl f
    go (inl e) (inr f) = absurd (omega arith)
    go (inr e) (inl f) = inr e
    go (inr e) (inr f) = inr e

one_less : (s : ℕ) → suc s - 1 ≡ s
one_less s = omega arith

-- What is left to decide of a part after some cuts of the stage: only whether the rest comes apart.
pub record Remains (g : ℕ) (ps : Pieces) (n : ℕ) (R rest : Rect) : Type 0 where
  pub within : Inside rest R
  pub back : Apart Exact g ps n rest → Apart Exact g ps n R

last : {g : ℕ} {ps : Pieces} {R : Rect} → Apart Exact g ps 0 R → Finished Exact ps R
last (done f) = f

-- a part that is finished, and one with no stage left
pub decides_early : {g : ℕ} {ps : Pieces} {n : ℕ} {R : Rect} {r : Bool} → (r ≡ true) ⊎ ((r ≡ false) × (n ≡ 0)) → Decides r (Finished Exact ps R) → Decides r (Apart Exact g ps n R)
decides_early (inl is_true) d = (λ t. done (d.0 t), λ a. is_true)
decides_early {g = g} {ps = ps} {R = R} (inr (is_false, none_left)) d = (λ t. done (d.0 t), λ a. d.1 (last (subst (λ (k : ℕ). Apart Exact g ps k R) none_left a)))

-- a group that comes apart in the stages left goes off, and what is beyond it remains
pub remains_more : {g : ℕ} {ps : Pieces} {n : ℕ} {R rest : Rect} {u : Span} → 0 < n → Sized ps → Group g ps rest u → Apart Exact g (all_swapped ps) (n - 1) (swapped (slice u rest)) → Remains g ps n R rest → Remains g ps n R (slice (record { from = u.to + g; to = rest.along.to }) rest)
remains_more {n = zero} lt z gr a m = absurd (omega arith)
remains_more {g = g} {ps = ps} {n = suc s} {R = R} {rest = rest} {u = u} lt z gr a m =
    record {
      within = let w = m.within in let v = gr.within in let p = gr.some in (omega arith);
      back = λ b. m.back (cut_off u z (omega (arith, gr.some)) gr.first (rw one_less at a) (restrict exact_fair (omega arith) b));
    }

-- one that does not is the end of it
pub remains_stuck : {g : ℕ} {ps : Pieces} {n : ℕ} {R rest : Rect} {u : Span} → 0 < n → Group g ps rest u → Remains g ps n R rest → Apart Exact g ps n R → Apart Exact g (all_swapped ps) (n - 1) (swapped (slice u rest))
remains_stuck {n = zero} lt gr m a = absurd (omega arith)
remains_stuck {n = suc s} lt gr m a =
    let w = m.within in
    let v = gr.within in
    rw one_less (solid_rest gr.solid (omega arith) a)

pub decides_stuck : {g : ℕ} {ps : Pieces} {n : ℕ} {R rest : Rect} {u : Span} {r : Bool} → 0 < n → Group g ps rest u → Remains g ps n R rest → r ≡ false → Decides r (Apart Exact g (all_swapped ps) (n - 1) (swapped (slice u rest))) → Decides false (Apart Exact g ps n R)
decides_stuck {r = r} lt gr m is_false d = (λ t. cc, λ a. absurd (not_from_Decides r d is_false (remains_stuck lt gr m a)))

-- a rest with no piece comes apart
pub decides_end : {g : ℕ} {ps : Pieces} {n : ℕ} {R rest : Rect} → HoldsNone ps rest → Remains g ps n R rest → Decides true (Apart Exact g ps n R)
decides_end none m = (λ _. m.back (nothing none), λ _. refl)
