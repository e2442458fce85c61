use Rattle.inspection.specs.Directions.{placed}
use Rattle.inspection.proofs.Scan.{longer_room, group_grows}
use Rattle.inspection.proofs.cutting.Cutting.group.Goals as goal

pub loop-t-preserved : goal.loop-t-preserved
loop-t-preserved c =
    let cutting = c.args.self.now in
    let d = c.args.direction in
    let places = cutting.places.now in (
      group_grows cutting.saw (placed d places) c.args.part c.loop-t.u c.in-Some.t c.loop-t.invariant.0 c.in-Some.ensures,
      longer_room d cutting.saw places c.args.part c.loop-t.u c.in-Some.t cutting.room c.in-Some.ensures,
    )
