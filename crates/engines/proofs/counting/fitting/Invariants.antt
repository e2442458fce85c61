use Rattle.std.proofs.Common.{◌≡◌, ◌≤◌, length, take, filter}
use Rattle.patterns.specs.Numbers.{inside}
use Rattle.engines.proofs.counting.fitting.Given as goal

-- of the numbers so far those that fit are held
abbrev pub invariant-loop-o : goal.invariant-loop-o
invariant-loop-o l = record { few : length l.held.items ≤ l.o-index; kept : l.held.items ≡ filter (inside l.length l.width) (take l.o-index l.numbers) }
