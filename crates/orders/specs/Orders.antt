-- Order texts, and where a text is at fault.
use Rattle.std.specs.Prelude.{◌≡◌, ℕ, ◌+◌, ◌<◌, ◌≤◌, List, [], ◌∷◌, ◌++◌, length, take, All}
use Rattle.text.specs.Fields.{lines}
use Rattle.text.specs.Texts.{Begins}
use Rattle.orders.specs.declared.order.Head.{Head}
use Rattle.orders.specs.declared.order.Item.{Item}
use Rattle.orders.specs.Lines.{line_of_job, line_of_item, ShortHead, ShortItem}

-- one item line after another
abbrev pub item_lines : List Item → List ℕ
item_lines is = lines line_of_item is

-- the one text of an order: its first line, then its items
abbrev pub text_of : Head → List Item → List ℕ
text_of h is = line_of_job h ++ item_lines is

-- t is the text of an order whose numbers have at most seven digits
pub record TextOf (h : Head) (is : List Item) (t : List ℕ) : Type 0 where
  pub short_head : ShortHead h
  pub short_items : All ShortItem is
  pub text : t ≡ text_of h is

-- t is the text of some order, whatever its length
abbrev pub Lawful : List ℕ → Type 0
Lawful t = (h : Head) × (is : List Item) × TextOf h is t

-- t is not too long
abbrev pub Fitting : List ℕ → Type 0
Fitting t = length t ≤ 65536

-- t is at fault after n bytes: these begin a lawful text, of any length, and there t ends early, or its next byte is one with which no
-- lawful text goes on, or is byte 65,537
pub record FaultAfter (t : List ℕ) (n : ℕ) : Type 0 where
  pub within : n ≤ length t
  pub limit : n ≤ 65536
  pub could : Begins Lawful (take n t)
  pub early : n ≡ length t → Lawful t → ⊥
  pub cannot : n < length t → n < 65536 → Begins Lawful (take (n + 1) t) → ⊥

-- t is not too long, and is the text of this order and of no other
pub record ReadAs (h : Head) (is : List Item) (t : List ℕ) : Type 0 where
  pub fitting : Fitting t
  pub says : TextOf h is t
  pub only : (k : Head) (ks : List Item) → TextOf k ks t → (k ≡ h) × (ks ≡ is)

-- t is at fault after n bytes and nowhere else, so it is no lawful text that is not too long
pub record OneFault (t : List ℕ) (n : ℕ) : Type 0 where
  pub fault : FaultAfter t n
  pub only : (m : ℕ) → FaultAfter t m → m ≡ n
  pub refused : Lawful t → Fitting t → ⊥

-- t is not lawful, and `left` is what follows on its longest front that begins a lawful text
pub record LeftAtFault (t left : List ℕ) : Type 0 where
  pub read : List ℕ
  pub parts : t ≡ read ++ left
  pub could : Begins Lawful read
  pub early : left ≡ [] → Lawful t → ⊥
  pub cannot : (b : ℕ) (more : List ℕ) → left ≡ b ∷ more → Begins Lawful (read ++ (b ∷ [])) → ⊥
