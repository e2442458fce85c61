-- An Account as a book.
use Rattle.layout.specs.Tables.{listed}
use Rattle.accounts.specs.declared.account.Account.{Account}
use Rattle.accounts.specs.Accounts.{Book}

-- what an account says: its kinds' ordered numbers and counts
abbrev pub book : Account → Book
book a = record { ordered = listed a.ordered; counted = listed a.counted }
