use Rattle.std.proofs.Common.{arith}
use Rattle.inspection.specs.declared.places.Direction.TheVariants.{Width}
use Rattle.inspection.proofs.Scan.{sized_seen}
use Rattle.inspection.proofs.Decide.{decides_early, decides_stuck, decides_end, remains_more}
use Rattle.inspection.proofs.cutting.Cutting.+apart_by_length_apart_by_width.Goals as goal

pub apart_by_length-returns-then-is_finished : goal.apart_by_length-returns-then-is_finished
apart_by_length-returns-then-is_finished t c = decides_early c.then-is_finished.either c.finished-is_finished.ensures

pub apart_by_length-returns-then-not-apart_by_width : goal.apart_by_length-returns-then-not-apart_by_width
apart_by_length-returns-then-not-apart_by_width t c = decides_stuck (omega arith) c.in-Some.ensures.group c.loop-u.invariant c.if-not-apart_by_width.true c.apart_by_width.ensures

pub apart_by_length-loop-u-preserved : goal.apart_by_length-loop-u-preserved
apart_by_length-loop-u-preserved t c = remains_more (omega arith) c.args.self.now.sized c.in-Some.ensures.group (c.apart_by_width.ensures.0 c.if-not-apart_by_width.false) c.loop-u.invariant

pub apart_by_length-returns : goal.apart_by_length-returns
apart_by_length-returns t c = decides_end c.in_default.ensures.group c.loop-u.invariant

pub apart_by_width-returns-then-is_finished : goal.apart_by_width-returns-then-is_finished
apart_by_width-returns-then-is_finished t c = decides_early c.then-is_finished.either c.finished-is_finished.ensures

pub apart_by_width-returns-then-not-apart_by_length : goal.apart_by_width-returns-then-not-apart_by_length
apart_by_width-returns-then-not-apart_by_length t c = decides_stuck (omega arith) c.in-Some.ensures.group c.loop-u.invariant c.if-not-apart_by_length.true c.apart_by_length.ensures

pub apart_by_width-loop-u-preserved : goal.apart_by_width-loop-u-preserved
apart_by_width-loop-u-preserved t c = remains_more (omega arith) (sized_seen Width c.args.self.now.places.now c.args.self.now.sized) c.in-Some.ensures.group (c.apart_by_length.ensures.0 c.if-not-apart_by_length.false) c.loop-u.invariant

pub apart_by_width-returns : goal.apart_by_width-returns
apart_by_width-returns t c = decides_end c.in_default.ensures.group c.loop-u.invariant
