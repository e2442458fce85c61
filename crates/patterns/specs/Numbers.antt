-- The oriented numbers of a task that count, the lowest first. An oriented number is written as the kind in its position, with sizes and value.
use Rattle.std.specs.Prelude.{ℕ, suc, ◌+◌, ◌*◌, Bool, true, if◌then◌else◌, ◌&&◌, List, [], ◌∷◌, nat_le}
use Rattle.layout.specs.declared.panel.Kind.{Kind}
use Rattle.layout.specs.Pieces.{along, across}
use Rattle.layout.specs.Tasks.{Model}
use Rattle.patterns.specs.declared.Oriented.{Oriented}

-- the oriented number of a kind and a turn
abbrev pub number : Oriented → ℕ
number o = 2 * o.kind + o.turned

-- what stands past the end of a list of oriented numbers
abbrev pub no_piece : Oriented
no_piece = record { kind = 0; turned = 0; along = 0; across = 0; value = 0 }

-- the kind k, whose number is n, in the turn t
abbrev pub oriented : ℕ → ℕ → Kind → Oriented
oriented n t k = record { kind = n; turned = t; along = along k.panel t; across = across k.panel t; value = k.value }

-- along is at most l, and across at most w
abbrev pub inside : ℕ → ℕ → Oriented → Bool
inside l w o = nat_le o.along l && nat_le o.across w

-- the kind is wanted, its turn allowed, and the piece fits the plate
abbrev pub counts : ℕ → ℕ → Kind → Bool → Oriented → Bool
counts l w k allowed o = k.wanted && (allowed && inside l w o)

-- a is kept in front of the rest where the test passes
abbrev pub keep : {A : Type 0} → Bool → A → List A → List A
keep test a rest = if test then a ∷ rest else rest

-- those that count, of the kinds from number n on: each kind as it is, then turned
abbrev pub numbers_from : ℕ → ℕ → ℕ → List Kind → List Oriented
numbers_from l w n [] = []
numbers_from l w n (k ∷ ks) =
    keep (counts l w k true (oriented n 0 k)) (oriented n 0 k)
    (keep (counts l w k k.panel.may_turn (oriented n 1 k)) (oriented n 1 k) (numbers_from l w (suc n) ks))

-- the numbers of a task that count
abbrev pub numbers : Model → List Oriented
numbers m = numbers_from m.length m.width 0 m.kinds
