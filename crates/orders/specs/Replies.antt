-- What reading an order text answers.
use Rattle.std.specs.Prelude.{ℕ, List, Some, None, vec_items, Option, MatchOption}
use Rattle.orders.specs.declared.order.Order.{Order}
use Rattle.text.specs.declared.stop.Stop.{Stop}
use Rattle.text.specs.declared.stop.Stop.TheVariants as stop
use Rattle.orders.specs.declared.unread.Unread.{Unread}
use Rattle.orders.specs.declared.unread.Unread.TheVariants as unread
use Rattle.orders.specs.Orders.{TextOf, ReadAs, LeftAtFault, Lawful, Fitting}
use Rattle.orders.specs.Places.{Bad, bad_text, TellsFault}

-- t is the text of the order o
abbrev pub Says : Order → List ℕ → Type 0
Says o t = TextOf o.head (vec_items o.items) t

-- t is the text of the order o and of no other, and not too long
abbrev pub SaysOnly : Order → List ℕ → Type 0
SaysOnly o t = ReadAs o.head (vec_items o.items) t

-- a fault stops the reading where it stands; want of memory anywhere
abbrev pub Stopped : Stop → List ℕ → Type 0
Stopped (stop.Fault fault) t = LeftAtFault t fault.left.now
Stopped stop.Memory t = Unit {0}

-- what is told of a text that was not read, in numbers: code, line and column of a fault; want of memory has no number
abbrev pub told : Unread → Option Bad
told (unread.Fault place) = Some (bad_text place)
told unread.Memory = None

-- a fault is told by its numbers; want of memory only where there is none
abbrev pub UnreadBy : Unread → List ℕ → Type 0
UnreadBy u t = MatchOption (told u) (Lawful t × Fitting t) (λ b. TellsFault b t)
