-- The lines of an order text.
use Rattle.std.specs.Prelude.{◌≡◌, ℕ, List, [], ◌∷◌, codes, decimal}
use Rattle.text.specs.Fields.{line, letter, SevenDigits}
use Rattle.text.specs.declared.fields.Letters.TheVariants.{Turn}
use Rattle.orders.specs.declared.order.Head.{Head}
use Rattle.orders.specs.declared.order.Item.{Item}

-- `job`, job number, plate length, plate width, saw width, trim
abbrev pub line_of_job : Head → List ℕ
line_of_job h = line (codes "job") (decimal h.job ∷ decimal h.length ∷ decimal h.width ∷ decimal h.saw ∷ decimal h.trim ∷ [])

-- `item`, length, width, `n` or `t`, value, ordered number
abbrev pub line_of_item : Item → List ℕ
line_of_item i = line (codes "item") (decimal i.length ∷ decimal i.width ∷ (letter Turn i.may_turn ∷ []) ∷ decimal i.value ∷ decimal i.ordered ∷ [])

-- each number of the first line has at most seven digits
pub record ShortHead (h : Head) : Type 0 where
  pub job : SevenDigits h.job
  pub length : SevenDigits h.length
  pub width : SevenDigits h.width
  pub saw : SevenDigits h.saw
  pub trim : SevenDigits h.trim

-- and each number of an item line
pub record ShortItem (i : Item) : Type 0 where
  pub length : SevenDigits i.length
  pub width : SevenDigits i.width
  pub value : SevenDigits i.value
  pub ordered : SevenDigits i.ordered

-- the texts that are a first line
abbrev pub JobLine : List ℕ → Type 0
JobLine t = (h : Head) × ShortHead h × (t ≡ line_of_job h)

-- the texts that are an item line
abbrev pub ItemLine : List ℕ → Type 0
ItemLine t = (i : Item) × ShortItem i × (t ≡ line_of_item i)
