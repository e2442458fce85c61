-- The fields of a line.
use Rattle.std.specs.Prelude.{◌≡◌, ℕ, ◌^◌, ◌<◌, Bool, true, false, List, [], ◌∷◌, ◌++◌, decimal, ◌≢◌}
use Rattle.std.specs.Int.{IsInRange}
use Rattle.text.specs.declared.fields.End.{End}
use Rattle.text.specs.declared.fields.End.TheVariants.{Blank, Line}
use Rattle.text.specs.declared.fields.Letters.{Letters}
use Rattle.text.specs.declared.fields.Letters.TheVariants.{Turn, Spare}

-- a line: its first field, each other field after one blank, and byte 10
abbrev pub line : List ℕ → List (List ℕ) → List ℕ
line f [] = f ++ (10 ∷ [])
line f (g ∷ gs) = f ++ (32 ∷ line g gs)

-- one line after another
abbrev pub lines : {X : Type 0} → (X → List ℕ) → List X → List ℕ
lines f [] = []
lines f (x ∷ xs) = f x ++ lines f xs

-- the byte after a field: a blank inside a line, byte 10 at its end
abbrev pub mark : End → ℕ
mark Blank = 32
mark Line = 10

-- the two letters of a choice, the second where it is true: `n` or `t` for what may turn or is turned, `k` or `s` for what is kept or spare
abbrev pub letter : Letters → Bool → ℕ
letter Turn false = 110
letter Turn true = 116
letter Spare false = 107
letter Spare true = 115

-- a number of at most seven digits
abbrev pub SevenDigits : ℕ → Type 0
SevenDigits n = n < 10 ^ 7

-- the texts of a fixed word
abbrev pub Word : List ℕ → List ℕ → Type 0
Word w t = t ≡ w

-- a number of at most seven digits, written without a needless zero, and the mark after it
abbrev pub Number : ℕ → List ℕ → Type 0
Number m t = (n : ℕ) × SevenDigits n × (t ≡ decimal n ++ (m ∷ []))

-- one of two letters
abbrev pub Letter : Letters → List ℕ → Type 0
Letter l t = (b : Bool) × (t ≡ letter l b ∷ [])

-- one of two letters, and the mark after it
abbrev pub Choice : Letters → ℕ → List ℕ → Type 0
Choice l m t = (b : Bool) × (t ≡ letter l b ∷ (m ∷ []))

-- the byte b is a digit that can stand next in a number v of k digits so far
pub record More (k v b : ℕ) : Type 0 where
  pub room : k < 7
  pub plain : 0 < k → v ≢ 0
  pub digit : IsInRange 48 57 b
