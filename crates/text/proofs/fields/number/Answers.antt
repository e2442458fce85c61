use Rattle.std.proofs.Common.{◌≡◌, ℕ, ◌<◌, ◌∷◌, ◌++◌, decimal, sym, ap, ◌∙◌, add-one, arith}
use Rattle.text.specs.Fields.{mark}
use Rattle.text.proofs.Codes.{nil_not_cons}
use Rattle.text.proofs.Numerals.{written_some, read_small, number_stops, read_more, bad_at}
use Rattle.text.proofs.fields.number.Goals as goal
use Rattle.text.proofs.fields.number.Goals.{else-digits-gt0-via-then-digits-gt0+else-byte-last, else-digits-gt0-via-else-digits-gt0}

pub returns-then-byte-last : goal.returns-then-byte-last
returns-then-byte-last c = (
  read_small _ _ _ _ c.loop-byte.invariant,
  c.loop-byte.invariant.parts
      ∙ ap (λ z. z ++ c.loop-byte.left.now) (written_some c.loop-byte.digits c.loop-byte.value c.if-digits-gt0.true)
      ∙ ap (λ z. decimal c.loop-byte.value ++ z) (c.in-Some.ensures.cases.0 ∙ ap (λ (z : ℕ). z ∷ c.in-Some.tail.now) (c.if-byte-last.true ∙ c.byte-last.ensures)),
)

pub returns-then-not-goes_on : goal.returns-then-not-goes_on
returns-then-not-goes_on c =
    let unmarked : 0 < c.loop-byte.digits → c.in-Some.byte.now ≡ mark c.args.end → ⊥
    = elim c.else-digits-gt0.branch [
      | else-digits-gt0-via-then-digits-gt0+else-byte-last w ↦ λ _ e. w.if-byte-last.false (e ∙ sym c.byte-last.ensures)
      | else-digits-gt0-via-else-digits-gt0 w ↦ λ h _. omega (arith, h, w.if-digits-gt0.false)
    ] in
    number_stops (mark c.args.end) c.loop-byte.digits c.loop-byte.value c.args.text.now c.loop-byte.left.now c.loop-byte.invariant
    (bad_at _ _ _ _ _ (record { mark = unmarked; digit = c.if-not-goes_on.ensures }) c.in-Some.ensures.cases.0)

pub overflow_mul-value : goal.overflow_mul-value
overflow_mul-value c = omega (arith, read_small _ _ _ _ c.loop-byte.invariant)

pub overflow_add-value : goal.overflow_add-value
overflow_add-value c = omega (arith, read_small _ _ _ _ c.loop-byte.invariant, c.if-not-goes_on.ensures.digit.1, c.from.ensures)

pub loop-byte-preserved : goal.loop-byte-preserved
loop-byte-preserved c =
    simp (add-one, c.from.ensures)
    (read_more c.loop-byte.digits c.loop-byte.value c.args.text.now c.loop-byte.left.now c.in-Some.byte.now c.in-Some.tail.now
    c.loop-byte.invariant c.in-Some.ensures.cases.0 c.if-not-goes_on.ensures)

pub returns : goal.returns
returns c = number_stops (mark c.args.end) c.loop-byte.digits c.loop-byte.value c.args.text.now c.loop-byte.left.now c.loop-byte.invariant
    (λ b more e. absurd (nil_not_cons c.loop-byte.left.now b more c.in_default.ensures.cases e))
