-- A list in order, strip by strip: how much of anything that adds up it can hold.
use Rattle.std.proofs.Common.{◌≡◌, ℕ, ◌+◌, ◌≤◌, List, [], ◌∷◌, sym, refl, ap, ◌∙◌, arith}
use Rattle.std.proofs.lemmas.List.Elements.{recursion_from_All}
use Rattle.std.specs.List.{AllByRecursion}
use Rattle.layout.specs.declared.row.Row.{Row}
use Rattle.layout.specs.Pieces.{end, top}
use Rattle.layout.specs.Tasks.{Shape, panels}
use Rattle.rules.specs.Rules.{Placed}
use Rattle.patterns.specs.Sets.{SameStrip, NextSegment, GoesOn}
use Rattle.patterns.specs.Sets.GoesOn.{ends, same, strip, segment}
use Rattle.patterns.specs.Sequences.{sum}
use Rattle.patterns.proofs.Lists.{all_each}
use Rattle.patterns.proofs.Sizes.{along_of}

-- The strip at hand, up to the row p: its pieces lie from lo on, at one height, side by side.
pub record Run (s : Shape) (lo : ℕ) (p : Row) (earlier : List Row) : Type 0 where
  pub placed : AllByRecursion (Placed s) (p ∷ earlier)
  pub level : AllByRecursion (λ (q : Row). (q.y ≡ p.y) × (q.segment ≡ p.segment) × (q.strip ≡ p.strip)) (p ∷ earlier)
  pub room : lo + sum (along_of s) (p ∷ earlier) ≤ end (panels s) p

pub run_one : {s : Shape} {lo : ℕ} {p : Row} → Placed s p → lo ≤ p.x → Run s lo p []
run_one placed from = record { placed = (placed, tt); level = ((refl, refl, refl), tt); room = omega arith }

pub run_more : {s : Shape} {lo : ℕ} {p r : Row} {earlier : List Row} → Run s lo p earlier → SameStrip s p r → Placed s r → Run s lo r (p ∷ earlier)
run_more {p = p} {r} {earlier} run t placed =
    record {
      placed = (placed, run.placed);
      level = ((refl, refl, refl), all_each (λ q e. (e.0 ∙ sym t.level, e.1 ∙ sym t.segment, e.2 ∙ sym t.strip)) (p ∷ earlier) run.level);
      room = omega (arith, run.room, t.beyond);
    }

-- Let Each be known of every row, and let the rows of segment g lie from lo on. Let v be a number for each row, and let
-- bound y be so large that a strip at y whose pieces end at or below t, and all from t on, come to no more. Then what
-- follows in the segment comes to no more, beside what a next segment holds.
module _ (s : Shape) (g lo : ℕ) (Each : Row → Type 0) (placed : (r : Row) → Each r → Placed s r) (left : (r : Row) → Each r → r.segment ≡ g → lo ≤ r.x)
    (v : Row → ℕ) (bound : ℕ → ℕ) (aside : ℕ)
    (step : (p : Row) (earlier : List Row) → Run s lo p earlier → p.segment ≡ g → AllByRecursion Each (p ∷ earlier) → (t : ℕ) → t ≤ s.width → AllByRecursion (λ (q : Row). top (panels s) q ≤ t) (p ∷ earlier) → sum v (p ∷ earlier) + bound t ≤ bound p.y)
    (next : (q r : Row) (rest : List Row) → q.segment ≡ g → NextSegment q r → GoesOn s r [] rest → AllByRecursion Each (r ∷ rest) → sum v (r ∷ rest) ≤ aside) where
  pub segment_bound : (p : Row) (earlier rows : List Row) → GoesOn s p earlier rows → Run s lo p earlier → p.segment ≡ g → AllByRecursion Each (p ∷ earlier) → AllByRecursion Each rows → sum v (p ∷ earlier) + sum v rows ≤ bound p.y + aside
  segment_bound p earlier [] ends run e ok each = omega (arith, step p earlier run e ok s.width (omega arith) (all_each (λ q h. h.inside_across) (p ∷ earlier) run.placed))
  segment_bound p earlier (r ∷ rows) (same t go) run e ok each =
      omega (arith, ap bound t.level, segment_bound r (p ∷ earlier) rows go (run_more run t (placed r each.0)) (t.segment ∙ e) (each.0, ok) each.1)
  segment_bound p earlier (r ∷ rows) (strip t go) run e ok each =
      omega (
        arith,
        step p earlier run e ok r.y (omega (arith, (placed r each.0).inside_across)) (recursion_from_All (λ (q : Row). top (panels s) q ≤ r.y) (p ∷ earlier) t.above),
        segment_bound r [] rows go (run_one (placed r each.0) (left r each.0 (t.segment ∙ e))) (t.segment ∙ e) (each.0, tt) each.1,
      )
  segment_bound p earlier (r ∷ rows) (segment t go) run e ok each =
      omega (arith, next p r rows e t go each, step p earlier run e ok s.width (omega arith) (all_each (λ q h. h.inside_across) (p ∷ earlier) run.placed))
