use Rattle.std.proofs.Common.{◌≡◌, map, vec_items, string_bytes, ap, ◌∙◌, subst}
use Rattle.std.proofs.lemmas.Result.{IfOk-weaker}
use Rattle.inspection.specs.Verdicts.{plate_of}
use Rattle.plates.specs.Fits.{fitted, fitted_panel, fitted_row}
use Rattle.plates.specs.Checked.{Outcome}
use Rattle.plates.proofs.Outcomes.{outcome}
use Rattle.plates.proofs.check.inspected.Goals as goal

pub returns : goal.returns
returns c =
    let plate = c.args.plate.now in
    let answer = c.inspect-answer.result in
    let kinds : c.as_slice-3.result.now ≡ map fitted_panel (vec_items plate.kinds)
    = c.as_slice-3.ensures.value ∙ c.in_ok-kinds.ensures ∙ ap (map fitted_panel) c.as_slice.ensures.value in
    let rows : c.as_slice-4.result.now ≡ map fitted_row (vec_items plate.rows)
    = c.as_slice-4.ensures.value ∙ c.in_ok-rows.ensures ∙ ap (map fitted_row) c.as_slice-2.ensures.value in
    let given = plate_of c.wide.result c.wide-2.result c.narrow.result c.narrow-2.result c.as_slice-3.result.now c.as_slice-4.result.now in
    let same : given ≡ fitted plate.setting (vec_items plate.kinds) (vec_items plate.rows)
    = cc (c.wide.ensures, c.wide-2.ensures, c.narrow.ensures, c.narrow-2.ensures, kinds, rows) in
    IfOk-weaker c.told.result _ _
    (λ s t. subst (λ p. Outcome p (string_bytes s.printed) s.accepted) same
    (outcome given answer (string_bytes s.printed) s.accepted c.inspect-answer.ensures.answer c.inspect-answer.ensures.finding t))
    c.told.ensures
