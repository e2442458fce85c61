use Rattle.std.proofs.Common.{◌≡◌, ◌+◌, drop}
use Rattle.choosing.specs.Limits.{Filled}
use Rattle.choosing.proofs.knapsack.Knapsack.fill.Given as goal

-- what is written so far is right, and what stands beyond the last capacity is as it was
abbrev pub invariant-loop-capacity : goal.invariant-loop-capacity
invariant-loop-capacity g l = record {
  filled : Filled g.W.Worth.scale l.table l.self.candidates.now l.capacity;
  beyond : drop (l.self.capacity + 1) l.table ≡ drop (l.self.capacity + 1) l.initial.table;
}
