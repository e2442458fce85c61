use Rattle.std.proofs.lemmas.Result.{err_from_is_err_and}
use Rattle.std.proofs.Common.{[], ◌∷◌, subst}
use Rattle.text.specs.Texts.{Stops}
use Rattle.text.specs.Fields.{mark, Word}
use Rattle.text.proofs.Parts.{in_letter, past_letter}
use Rattle.text.proofs.fields.choice.Goals as goal

pub returns-in_err-chosen : goal.returns-in_err-chosen
returns-in_err-chosen c =
    let p = err_from_is_err_and c.from_residual.result c.from_residual.ensures.1 in
    rw (p.1, p.2) (in_letter c.args.letters (mark c.args.end) c.in_err-chosen.ensures)

pub returns-in_err-after : goal.returns-in_err-after
returns-in_err-after c =
    let p = err_from_is_err_and c.from_residual-in_err-after.result c.from_residual-in_err-after.ensures.1 in
    rw (p.1, p.2) (past_letter c.args.letters (mark c.args.end) c.in_ok-chosen.chosen c.in_ok-chosen.ensures
    (subst (λ m. Stops (Word (m ∷ [])) c.in_ok-chosen.rest.now c.in_err-after.field-0.0.left.now) c.byte.ensures c.in_err-after.ensures))
