-- Sound rows, their places, and the one verdict that a plate gets.
use Rattle.std.proofs.Common.{◌≡◌, ℕ, zero, suc, ◌+◌, ◌<◌, All, Bool, true, false, ◌⊎◌, List, length as size, get_or, map, Decides, sym, subst, inl, inr, arith}
use native.Mathlib.Decide.{dec_lt}
use Rattle.std.proofs.lemmas.List.{length-map, get_or-map}
use Rattle.std.proofs.lemmas.List.Elements.{All-get_or}
use Rattle.std.proofs.lemmas.Bool.Decides.{Decides-like}
use Rattle.layout.specs.declared.panel.Panel.{Panel}
use Rattle.layout.specs.declared.row.Row.{Row}
use Rattle.layout.specs.declared.rect.Rect.{Rect}
use Rattle.layout.specs.Pieces.{blank, no_panel, panel_of, along, across, end, top}
use Rattle.layout.specs.Apart.{swapped, Inside, Exact, Apart, plate}
use Rattle.layout.specs.Places.{pieces, place_of}
use Rattle.layout.proofs.Carrying.{exact_fair}
use Rattle.layout.proofs.Laws.{same_places}
use Rattle.inspection.specs.declared.places.Direction.TheVariants.{Length, Width}
use Rattle.inspection.specs.Directions.{no_rect, placed}
use Rattle.inspection.specs.Soundness.{Sound, AllSound, HasPlaces}
use Rattle.inspection.specs.Verdicts.{Plate, LawfulPanel, Faulty, NoneFaulty, FirstFaulty, PlateApart, Judged, Finding}

true_not_false : {b : Bool} → b ≡ true → b ≡ false → ⊥
true_not_false t f = let z : ◌≡◌ {A = ℕ} 0 1 = cc in omega arith

-- a sound row is not at fault
pub sound_not_faulty : (length width : ℕ) (kinds : List Panel) (r : Row) → Sound length width kinds r → Faulty length width kinds r → ⊥
sound_not_faulty length width kinds r s (inl unknown) = omega (arith, s.known, unknown)
sound_not_faulty length width kinds r s (inr (inl (inl above))) = omega (arith, s.turn, above)
sound_not_faulty length width kinds r s (inr (inl (inr (turned, may_not)))) = go s.turn
  where
    go : (r.turned ≡ 0) ⊎ ((r.turned ≡ 1) × ((panel_of kinds r).may_turn ≡ true)) → ⊥
    go (inl straight) = omega arith
    go (inr (_, may)) = true_not_false may may_not
sound_not_faulty length width kinds r s (inr (inr (inl far))) = omega (arith, s.along, far)
sound_not_faulty length width kinds r s (inr (inr (inr high))) = omega (arith, s.across, high)

pub none_faulty : (p : Plate) → AllSound p → NoneFaulty p
none_faulty p sound i lt = sound_not_faulty p.length p.width p.kinds (get_or p.rows i blank) (sound i lt)

-- A plate gets one verdict only.
first_only : (p : Plate) (j k : ℕ) → FirstFaulty p j → FirstFaulty p k → j ≡ k
first_only p j k fj fk = go (dec_lt j k) (dec_lt k j)
  where
    go : Dec (j < k) → Dec (k < j) → j ≡ k
    go (yes lt) _ = absurd (fk.2 j lt fj.1)
    go (no _) (yes gt) = absurd (fj.2 k gt fk.1)
    go (no a) (no b) = omega arith

one_verdict : (p : Plate) (v k w j : ℕ) → Judged p v k → Judged p w j → (w ≡ v) × (j ≡ k)
one_verdict p v k w j (inl a) (inl b) = (omega (arith, a.0, b.0), omega (arith, a.1, b.1))
one_verdict p v k w j (inl a) (inr (inl b)) = absurd (a.2 j b.1.0 b.1.1)
one_verdict p v k w j (inl a) (inr (inr b)) = absurd (b.3 a.3)
one_verdict p v k w j (inr (inl a)) (inl b) = absurd (b.2 k a.1.0 a.1.1)
one_verdict p v k w j (inr (inl a)) (inr (inl b)) = (omega (arith, a.0, b.0), first_only p j k b.1 a.1)
one_verdict p v k w j (inr (inl a)) (inr (inr b)) = absurd (b.2 k a.1.0 a.1.1)
one_verdict p v k w j (inr (inr a)) (inl b) = absurd (a.3 b.3)
one_verdict p v k w j (inr (inr a)) (inr (inl b)) = absurd (a.2 j b.1.0 b.1.1)
one_verdict p v k w j (inr (inr a)) (inr (inr b)) = (omega (arith, a.0, b.0), omega (arith, a.1, b.1))

pub found : (p : Plate) (v k : ℕ) → Judged p v k → Finding p v k
found p v k h = record { holds = h; only = λ w j o. one_verdict p v k w j h o }

-- lawful kinds give pieces with some length and some width
pub lawful_size : (kinds : List Panel) → All LawfulPanel kinds → (r : Row) → r.kind < size kinds → (r.x < end kinds r) × (r.y < top kinds r)
lawful_size kinds lawful r lt = go r.turned (All-get_or LawfulPanel kinds r.kind no_panel lt lawful)
  where
    go : (t : ℕ) → LawfulPanel (panel_of kinds r) → (r.x < r.x + along (panel_of kinds r) t) × (r.y < r.y + across (panel_of kinds r) t)
    go zero h = (omega (arith, h.0.0), omega (arith, h.1.0))
    go (suc n) h = (omega (arith, h.1.0), omega (arith, h.0.0))

-- the places of the rows, one for each
pub row_places : (p : Plate) → (size (map (place_of p.kinds) p.rows) ≡ size p.rows) × HasPlaces p (map (place_of p.kinds) p.rows) (size p.rows)
row_places p = (length-map _ _, λ i lt. get_or-map (place_of p.kinds) p.rows i blank no_rect lt)

-- Places in a table stand for the rows that they are of.
module _ (p : Plate) (places : List Rect) (many : size places ≡ size p.rows) (there : HasPlaces p places (size p.rows)) where
  pub table_inside : AllSound p → (i : ℕ) → i < size places → Inside (get_or places i no_rect) (plate p.length p.width)
  table_inside sound i lt =
      let s = sound i (omega arith) in
      subst (λ (Q : Rect). Inside Q (plate p.length p.width)) (sym (there i (omega arith))) ((omega arith, s.along), (omega arith, s.across))

  pub table_apart : (r : Bool) → AllSound p → Decides r (Apart Exact p.saw (placed Length places) p.stages (plate p.length p.width) ⊎ Apart Exact p.saw (placed Width places) p.stages (swapped (plate p.length p.width))) → Decides r (PlateApart p)
  table_apart r sound either =
      let R = plate p.length p.width in
      Decides-like r
      (λ a. same_places exact_fair p.saw p.stages R (placed Length places) (pieces p.kinds p.rows) (sym many) (λ i lt. sym (there i lt)) (table_inside sound, a))
      (λ a. (same_places exact_fair p.saw p.stages R (pieces p.kinds p.rows) (placed Length places) many (λ i lt. there i (omega arith)) a).1)
      either
