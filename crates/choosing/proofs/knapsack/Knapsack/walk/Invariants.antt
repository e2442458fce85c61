use Rattle.std.proofs.Common.{◌≡◌, ◌+◌, ◌*◌, ◌≤◌, ◌++◌, take, drop}
use Rattle.choosing.specs.Choice.{first}
use Rattle.choosing.proofs.knapsack.Knapsack.walk.Given as goal

-- what is written and what is still to come are the whole sequence, and beyond what is written all is as it was
abbrev pub invariant-loop-k : goal.invariant-loop-k
invariant-loop-k g l =
    let s = g.W.Worth.scale in
    let cands = l.self.candidates.now in
    record {
      whole : take l.count l.order ++ (first s cands l.left).order ≡ (first s cands l.self.capacity).order;
      room : 50 * l.count + l.left ≤ l.self.capacity;
      beyond : drop l.count l.order ≡ drop l.count l.initial.order;
    }

abbrev pub decreases-loop-k : goal.decreases-loop-k
decreases-loop-k g l = l.left
