-- Lines of one kind, one after another.
use Rattle.std.specs.Prelude.{◌≡◌, ℕ, List, ◌++◌, length, All}
use Rattle.text.specs.declared.lines.Broken.{Broken}
use Rattle.text.specs.declared.lines.Broken.TheVariants.{Line, Memory}
use Rattle.text.specs.declared.stop.Stop.{Stop}
use Rattle.text.specs.declared.stop.Stop.TheVariants as stop
use Rattle.text.specs.Fields.{lines}
use Rattle.text.specs.Texts.{Stops}

-- the texts that are one line: `f x` for an x that is short
abbrev pub LineOf : {X : Type 0} → (X → List ℕ) → (X → Type 0) → List ℕ → Type 0
LineOf {X} f Short t = (x : X) × Short x × (t ≡ f x)

-- t is some lines and then `rest`, at whose front no more of them must stand
pub record LinesRead {X : Type 0} (f : X → List ℕ) (Short : X → Type 0) (Next : List ℕ → Type 0) (t : List ℕ) (xs : List X) (rest : List ℕ) : Type 0 where
  pub short : All Short xs
  pub parts : t ≡ lines f xs ++ rest
  pub ended : Next rest → ⊥

-- t is n lines, and then comes one that is at fault; `left` is what is left from its first byte at fault on
pub record FaultyLine {X : Type 0} (f : X → List ℕ) (Short : X → Type 0) (Next : List ℕ → Type 0) (t : List ℕ) (n : ℕ) (left : List ℕ) : Type 0 where
  pub whole : List X
  pub rest : List ℕ
  pub short : All Short whole
  pub parts : t ≡ lines f whole ++ rest
  pub next : Next rest
  pub stops : Stops (LineOf f Short) rest left
  pub count : n ≡ length whole

-- why reading lines broke off: at a fault where it stands, for want of memory anywhere
abbrev pub BrokeOff : {X : Type 0} → (X → List ℕ) → (X → Type 0) → (List ℕ → Type 0) → List ℕ → Broken → Type 0
BrokeOff f Short Next t (Line n fault) = FaultyLine f Short Next t n fault.left.now
BrokeOff f Short Next t Memory = Unit {0}

-- the same without the number of lines
abbrev pub stop_of : Broken → Stop
stop_of (Line n fault) = stop.Fault fault
stop_of Memory = stop.Memory
