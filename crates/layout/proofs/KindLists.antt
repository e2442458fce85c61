-- Lists of kinds, and what making a task asks of them.
use Rattle.std.proofs.Common.{List, inl, inr, arith}
use Rattle.layout.specs.declared.panel.Kind.{Kind}
use Rattle.layout.specs.Limits.{EachKind, SomeKind, LawfulSides, LawfulValue, BadSides, BadValue}
use Rattle.layout.specs.Refusals.{Accepted}
use Rattle.layout.specs.Tasks.{Model, WithinLimits, TaskCause}

-- what holds of each kind is broken by none
pub none_broken : (P Q : Kind → Type 0) → ((k : Kind) → P k → Q k → ⊥) → (kinds : List Kind) → EachKind P kinds → SomeKind Q kinds → ⊥
none_broken P Q apart kinds each (i, lt, q) = apart _ (each i lt) q

sides_apart : (k : Kind) → LawfulSides k → BadSides k → ⊥
sides_apart k h (inl b) = omega (arith, h.0.0, h.0.1, b)
sides_apart k h (inr b) = omega (arith, h.1.0, h.1.1, b)

value_apart : (k : Kind) → LawfulValue k → BadValue k → ⊥
value_apart k h b = omega (arith, h.0, h.1, b)

pub no_bad_sides : (kinds : List Kind) → EachKind LawfulSides kinds → SomeKind BadSides kinds → ⊥
no_bad_sides = none_broken LawfulSides BadSides sides_apart

pub no_bad_values : (kinds : List Kind) → EachKind LawfulValue kinds → SomeKind BadValue kinds → ⊥
no_bad_values = none_broken LawfulValue BadValue value_apart

-- a task within the limits has no cause to be refused
pub nothing_wrong : (m : Model) → WithinLimits m → Accepted (TaskCause m)
nothing_wrong m h c (inl (e, inl long)) = omega (arith, h.plate.0, long)
nothing_wrong m h c (inl (e, inr (inl wide))) = omega (arith, h.plate.1, wide)
nothing_wrong m h c (inl (e, inr (inr bad))) = no_bad_sides m.kinds h.sides bad
nothing_wrong m h c (inr (inl (e, bad))) = no_bad_values m.kinds h.values bad
nothing_wrong m h c (inr (inr (e, many))) = omega (arith, h.few, many)
