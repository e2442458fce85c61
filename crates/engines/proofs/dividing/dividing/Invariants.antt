use Rattle.std.proofs.Common.{ℕ, ◌<◌, ◌≤◌}
use Rattle.engines.specs.Positions.{both_sides}
use Rattle.engines.proofs.dividing.dividing.Given as goal

-- the best so far is the lowest of greatest sum
abbrev pub invariant-loop-c : goal.invariant-loop-c
invariant-loop-c l =
    record {
      within : l.best ≤ l.length;
      greatest : (j : ℕ) → j < l.c → both_sides l.worths l.length j ≤ both_sides l.worths l.length l.best;
      lowest : (j : ℕ) → j < l.best → both_sides l.worths l.length j < both_sides l.worths l.length l.best;
      reached : l.best < l.c;
    }
