-- The laws of the rule that cuts nothing.
use Rattle.std.specs.Prelude.{ℕ, ◌≤◌, refl}
use Rattle.std.proofs.Common.{inl, arith}
use Rattle.std.proofs.lemmas.List.Elements.{All-nil}
use Rattle.layout.proofs.Laws.{nothing}
use Rattle.layout.specs.Tasks.{shape}
use Rattle.rules.specs.Rules.{Placed, Numbered, RuleLaws}
use Rattle.piles.specs.Nothing.{OnlyEmptyList, no_rows}

pub nothing_laws : (reach : ℕ) → reach ≤ 3200 → RuleLaws OnlyEmptyList no_rows reach 3 0
nothing_laws reach far = record {
  far = far;
  staged = omega arith;
  empty = λ m a. refl;
  proper = λ m a rows e. rw e (record { few = omega arith; placed = All-nil (Placed (shape m)); numbered = All-nil Numbered; apart = (λ i lt. omega arith, inl (nothing (λ i held. omega (arith, held.0)))) });
  member = λ m a. refl;
  most = λ m a rows e. rw e (omega arith);
}
