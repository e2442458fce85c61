use Rattle.std.proofs.Common.{[], ◌∷◌, ◌++◌, take, sym, ap, ◌∙◌}
use Rattle.std.proofs.lemmas.List.{take_more, take_all}
use Rattle.text.proofs.Codes.{head_same, push_rest, nil_not_cons}
use Rattle.text.proofs.Words.{word_stops}
use Rattle.text.proofs.fields.word.Goals as goal

pub returns-in_default : goal.returns-in_default
returns-in_default c =
    word_stops c.args.expected.now c.loop-byte.byte-index c.loop-byte-test.true c.args.text.now c.loop-byte.rest.now c.loop-byte.invariant
    (λ b more e _. nil_not_cons c.loop-byte.rest.now b more c.in_default.ensures.cases e)

pub returns-then-first-byte : goal.returns-then-first-byte
returns-then-first-byte c =
    word_stops c.args.expected.now c.loop-byte.byte-index c.loop-byte-test.true c.args.text.now c.loop-byte.rest.now c.loop-byte.invariant
    (λ b more e f. c.if-first-byte.true (head_same c.in-Some.first.now b c.in-Some.tail.now more (sym c.in-Some.ensures.cases.0 ∙ e) ∙ f))

pub loop-byte-preserved : goal.loop-byte-preserved
loop-byte-preserved c =
    let m = take_more c.args.expected.now c.loop-byte.byte-index 0 c.loop-byte-test.true in
    c.loop-byte.invariant
    ∙ ap (λ z. take c.loop-byte.byte-index c.args.expected.now ++ z) c.in-Some.ensures.cases.0
    ∙ sym (push_rest (take c.loop-byte.byte-index c.args.expected.now) c.in-Some.first.now c.in-Some.tail.now)
    ∙ ap (λ z. (take c.loop-byte.byte-index c.args.expected.now ++ (z ∷ [])) ++ c.in-Some.tail.now) c.if-first-byte.false
    ∙ ap (λ z. z ++ c.in-Some.tail.now) (sym m)

pub returns : goal.returns
returns c = let h = take_all c.loop-byte.byte-index c.args.expected.now c.loop-byte-test.false in c.loop-byte.invariant ∙ ap (λ z. z ++ c.loop-byte.rest.now) h
