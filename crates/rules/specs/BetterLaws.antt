-- The laws of better-of-two, from those of the two rules.
use Rattle.std.specs.Prelude.{All, ℕ, ◌<◌, ◌≤◌, min, max, List, length as size, if◌then◌else◌, nat_lt}
use Rattle.std.proofs.Common.{inl, inr, arith, ltb-true, ltb-false}
use Rattle.std.proofs.lemmas.Bool.{cond_both}
use Rattle.std.proofs.lemmas.List.{length-map}
use Rattle.std.proofs.lemmas.List.Elements.{All-weaker}
use Rattle.layout.specs.declared.row.Row.{Row}
use Rattle.layout.specs.Apart.{plate}
use Rattle.layout.specs.Places.{pieces}
use Rattle.layout.specs.Tasks.{Model, Shape, shape, form, panels, worth, WithinLimits}
use Rattle.layout.proofs.Carrying.{exact_fair}
use Rattle.layout.proofs.Laws.{more_stages, smaller_saw}
use Rattle.rules.specs.Rules.{Placed, Proper, RuleLaws}
use Rattle.rules.specs.Layers.{EitherPatterns, better_named}
use Rattle.rules.specs.Rowwise.{sized_rows}
use Rattle.rules.specs.Answering.{asked_more}

-- what comes apart does so in more stages and at a smaller saw width
weaker : {stages saw : ℕ} (m : Model) (rows : List Row) (most thin : ℕ) → WithinLimits m → stages ≤ most → thin ≤ saw → Proper stages saw (shape m) rows → Proper most thin (shape m) rows
weaker {stages} {saw} m rows most thin limits le thinner p =
    let ps = pieces (panels (shape m)) rows in
    let R = plate m.length m.width in
    record {
      few = p.few;
      placed = p.placed;
      numbered = p.numbered;
      apart = more_stages thin stages most R ps le (smaller_saw exact_fair saw thin stages R ps thinner (sized_rows m limits rows known) p.apart);
    }
  where
    known : All (λ (r : Row). r.kind < size m.kinds) rows
    known = All-weaker (Placed (shape m)) (λ (r : Row). r.kind < size m.kinds) (λ r q. omega (arith, q.known, length-map m.kinds form)) rows p.placed

-- the chosen list is worth at least as much as each
chosen_most : (w : List Row → ℕ) (one two : List Row) → let c = if nat_lt (w one) (w two) then two else one in (w one ≤ w c) × (w two ≤ w c)
chosen_most w one two =
    cond_both (nat_lt (w one) (w two)) two one (λ c. (w one ≤ w c) × (w two ≤ w c))
    (λ e. let lt = ltb-true (w one) (w two) e in (omega arith, omega arith))
    (λ e. let ge = ltb-false (w one) (w two) e in (omega arith, omega arith))

pub better_laws : {one two : Shape → List Row → Type 0} {first second : Model → List Row} {r₁ r₂ s₁ s₂ w₁ w₂ : ℕ} → RuleLaws one first r₁ s₁ w₁ → RuleLaws two second r₂ s₂ w₂ →
    RuleLaws (EitherPatterns one two) (better_named first second) (min r₁ r₂) (max s₁ s₂) (min w₁ w₂)
better_laws {one} {two} {first} {second} {r₁} {r₂} {s₁} {s₂} {w₁} {w₂} l k =
    record {
      far = omega (arith, l.far);
      staged = omega (arith, l.staged);
      empty = λ m a. inl (l.empty m (asked_more (omega arith) a));
      proper = λ m a rows p. elim p [
        | inl q ↦ weaker m rows (max s₁ s₂) (min w₁ w₂) a.limits (omega arith) (omega arith) (l.proper m (asked_more (omega arith) a) rows q)
        | inr q ↦ weaker m rows (max s₁ s₂) (min w₁ w₂) a.limits (omega arith) (omega arith) (k.proper m (asked_more (omega arith) a) rows q)
      ];
      member = λ m a. cond_both (nat_lt (worth m (first m)) (worth m (second m))) (second m) (first m) (EitherPatterns one two (shape m))
          (λ e. inr (k.member m (asked_more (omega arith) a)))
          (λ e. inl (l.member m (asked_more (omega arith) a)));
      most = λ m a rows p.
          let w = worth m in
          let c = chosen_most w (first m) (second m) in
          elim p [
            | inl q ↦ omega (arith, c.0, l.most m (asked_more (omega arith) a) rows q)
            | inr q ↦ omega (arith, c.1, k.most m (asked_more (omega arith) a) rows q)
          ];
    }
