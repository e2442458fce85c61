use Rattle.std.proofs.Common.{take}
use Rattle.accounts.specs.Accounts.{Tallied}
use Rattle.accounts.proofs.account.counting.tally.Given as goal

-- the table has the numbers of the rows so far
abbrev pub invariant-loop-row : goal.invariant-loop-row
invariant-loop-row l = Tallied (take l.row-index l.rows) l.table
