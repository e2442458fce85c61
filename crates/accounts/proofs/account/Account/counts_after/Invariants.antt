use Rattle.std.proofs.Common.{◌≡◌, length as size}
use Rattle.layout.specs.Tables.{listed}
use Rattle.accounts.specs.Accounts.{Summed}
use Rattle.accounts.specs.Books.{book}
use Rattle.accounts.proofs.account.Account.counts_after.Given as goal

-- the sums so far
abbrev pub invariant-loop-count : goal.invariant-loop-count
invariant-loop-count l = (size (listed l.sums) ≡ size l.yielded) × Summed (book l.self) l.tallies l.runs (listed l.sums)
