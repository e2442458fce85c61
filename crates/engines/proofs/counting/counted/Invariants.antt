use Rattle.std.proofs.Common.{◌≡◌, ◌*◌, ◌≤◌, ◌++◌, length, drop}
use Rattle.patterns.specs.Numbers.{numbers_from}
use Rattle.engines.proofs.counting.counted.Given as goal

-- what is found, and what is still to be found, are all that count
abbrev pub invariant-loop-i : goal.invariant-loop-i
invariant-loop-i l = record { few : length l.numbers.items ≤ 2 * l.i; all : l.numbers.items ++ numbers_from l.length l.width l.i (drop l.i l.kinds) ≡ numbers_from l.length l.width 0 l.kinds }
