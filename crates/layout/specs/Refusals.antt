-- The number of each refusal, and which refusal a call answers.
use Rattle.std.specs.Prelude.{ℕ, ◌<◌, Ok, Err, Result}
use Rattle.layout.specs.declared.refusal.Refusal.{Refusal}
use Rattle.layout.specs.declared.refusal.Refusal.TheVariants.{Side, Value, Quantity, UnknownKind, Room, Setting, Text, JobNumber, TooMany, PlateOut, SlipWritten, NothingToSettle, NothingOwed, OnlyEmpty, Reach, PastOrder}

-- the number of each refusal
abbrev pub code_of : Refusal → ℕ
code_of Side = 1
code_of Value = 2
code_of Quantity = 3
code_of UnknownKind = 4
code_of Room = 5
code_of Setting = 6
code_of Text = 7
code_of JobNumber = 8
code_of TooMany = 11
code_of PlateOut = 12
code_of SlipWritten = 13
code_of NothingToSettle = 14
code_of NothingOwed = 15
code_of OnlyEmpty = 16
code_of Reach = 17
code_of PastOrder = 18

-- A call has a set of causes, each a number that holds or not. It is accepted exactly when none holds:
abbrev pub Accepted : (ℕ → Type 0) → Type 0
Accepted cause = (c : ℕ) → cause c → ⊥

-- and it is refused with the smallest that holds.
pub record RefusedBy (cause : ℕ → Type 0) (e : Refusal) : Type 0 where
  pub holds : cause (code_of e)
  pub smallest : (c : ℕ) → c < code_of e → cause c → ⊥

-- what a call answers, given its causes
abbrev pub Answered : {T : Type 0} → (ℕ → Type 0) → Result T Refusal → Type 0
Answered cause (Ok x) = Accepted cause
Answered cause (Err e) = RefusedBy cause e
