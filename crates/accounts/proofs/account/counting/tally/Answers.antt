use Rattle.std.proofs.Common.{◌≡◌, List, get_or, take, refl, subst, arith}
use Rattle.std.proofs.lemmas.List.{length-take-le, take_all}
use Rattle.std.proofs.lemmas.Bool.Decides.{not_from_Decides}
use Rattle.layout.specs.declared.row.Row.{Row}
use Rattle.layout.specs.Pieces.{blank}
use Rattle.accounts.specs.Accounts.{Tallied}
use Rattle.accounts.proofs.Tallies.{kept_bound, tallied_none, tallied_keep, tallied_spare}
use Rattle.accounts.proofs.account.counting.tally.Goals as goal
use Rattle.accounts.proofs.account.counting.tally.Goals.{then-is_kept, else-is_kept}

pub loop-row-init : goal.loop-row-init
loop-row-init c = tallied_none

pub overflow_add-table : goal.overflow_add-table
overflow_add-table c =
    let rows = c.args.rows.now in
    let i = c.loop-row.row-index in
    let kind = (get_or rows i blank).kind in
    omega (arith, c.loop-row.invariant.each kind (c.requires.known i c.loop-row-test.true), kept_bound kind (take i rows), length-take-le i rows (omega arith))

pub loop-row-preserved : goal.loop-row-preserved
loop-row-preserved c =
    let rows = c.args.rows.now in
    let i = c.loop-row.row-index in
    elim c.if-is_kept.branch [
      | then-is_kept w ↦ rw w.table-is (tallied_keep rows c.loop-row.table i c.loop-row-test.true (c.requires.known i c.loop-row-test.true) (w.if-is_kept.ensures.0 refl) c.loop-row.invariant)
      | else-is_kept w ↦ rw w.table-is (tallied_spare rows c.loop-row.table i c.loop-row-test.true (not_from_Decides _ c.is_kept.ensures w.if-is_kept.false) c.loop-row.invariant)
    ]

pub returns : goal.returns
returns c =
    let rows = c.args.rows.now in
    let whole : take c.loop-row.row-index rows ≡ rows = take_all _ rows c.loop-row-test.false in
    subst (λ (done : List Row). Tallied done c.loop-row.table) whole c.loop-row.invariant
