-- What reading a plate text answers.
use Rattle.std.specs.Prelude.{◌≡◌, ℕ, ◌+◌, List, ◌∷◌, vec_items}
use Rattle.text.specs.Many.{BrokeOff}
use Rattle.text.specs.declared.lines.Broken.{Broken}
use Rattle.text.specs.declared.lines.Broken.TheVariants as broken
use Rattle.plates.specs.declared.plate.Plate.{Plate}
use Rattle.plates.specs.declared.unread.Unread.{Unread}
use Rattle.plates.specs.declared.unread.Unread.TheVariants.{Line, Memory}
use Rattle.plates.specs.Texts.{ReadAs, BadLine}

-- t begins as a kind line does
abbrev pub Kindly : List ℕ → Type 0
Kindly t = (more : List ℕ) × (t ≡ 107 ∷ more)

-- t is the text of the plate p and of no other
abbrev pub PlateRead : Plate → List ℕ → Type 0
PlateRead p t = ReadAs p.setting (vec_items p.kinds) (vec_items p.rows) t

-- why a text was not read: its bad line comes after so many lines read before, and so many whole ones
abbrev pub unread_after : ℕ → Broken → Unread
unread_after before (broken.Line n fault) = Line (before + n + 1)
unread_after before broken.Memory = Memory

-- u is why the lines of one kind that t begins with were not read
abbrev pub PartUnread : {X : Type 0} → (X → List ℕ) → (X → Type 0) → (List ℕ → Type 0) → List ℕ → ℕ → Unread → Type 0
PartUnread f Short Next t before u = (b : Broken) × BrokeOff f Short Next t b × (u ≡ unread_after before b)

-- the first bad line is answered; nothing is said where memory was wanting
abbrev pub PlateUnread : Unread → List ℕ → Type 0
PlateUnread (Line a) t = BadLine t a
PlateUnread Memory t = Unit {0}
