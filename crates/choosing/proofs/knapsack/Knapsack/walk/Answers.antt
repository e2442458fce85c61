use Rattle.std.proofs.Common.{◌<◌, length, append_assoc, arith}
use Rattle.std.proofs.lemmas.Grind.{common_steps}
use Rattle.std.proofs.lemmas.List.{take_more_set}
use Rattle.choosing.proofs.Filling.{size_read}
use Rattle.choosing.proofs.knapsack.Knapsack.walk.Goals as goal

pub loop-k-preserved : goal.loop-k-preserved
loop-k-preserved g c =
    let cands = c.args.self.now.candidates.now in
    let k = c.in-Some.k in
    let picked = c.in-Some.ensures in
    let size = size_read cands k c.index-self-k.result picked.known in
    let within : c.loop-k.count < length c.loop-k.order = omega (arith, picked.takes, picked.fits, c.loop-k.invariant.room, c.args.self.now.limit, c.requires.enough, c.loop-k.auto.order) in
    record {
      whole = rw (take_more_set c.loop-k.order c.loop-k.count k within, append_assoc, size, ← picked.on) c.loop-k.invariant.whole;
      room = omega (arith, size, picked.takes, picked.fits, c.loop-k.invariant.room);
      beyond = grind (arith, common_steps);
    }
