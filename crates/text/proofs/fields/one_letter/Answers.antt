use Rattle.std.proofs.Common.{sym, ◌∙◌}
use Rattle.text.proofs.Codes.{head_same, nil_not_cons}
use Rattle.text.proofs.Words.{letter_stops}
use Rattle.text.proofs.fields.one_letter.Goals as goal

pub returns-in_default : goal.returns-in_default
returns-in_default c = letter_stops c.args.letters c.args.text.now (λ b more e. absurd (nil_not_cons c.args.text.now b more c.in_default.ensures.cases e))

pub returns-else-first-byte-2 : goal.returns-else-first-byte-2
returns-else-first-byte-2 c = letter_stops c.args.letters c.args.text.now (λ b more e.
    let f = head_same c.in-Some.first.now b c.in-Some.rest.now more (sym c.in-Some.ensures.cases.0 ∙ e) in
    (λ g. c.if-first-byte.false (f ∙ g ∙ sym c.byte.ensures), λ g. c.if-first-byte-2.false (f ∙ g ∙ sym c.byte-else-first-byte.ensures)))
