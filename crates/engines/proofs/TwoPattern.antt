-- The two-staged pattern as the engine writes it.
use Rattle.std.proofs.Common.{◌≡◌, ℕ, ◌≤◌, map, length, sym, ap, ◌∙◌}
use Rattle.choosing.specs.Plain.{plain}
use Rattle.layout.specs.Tasks.{Model, WithinLimits, shape, worth}
use Rattle.patterns.specs.Named.{two_staged_segment, two_staged_pattern}
use Rattle.patterns.specs.Numbers.{numbers}
use Rattle.patterns.specs.Strips.{by_value, general_strip, stack, lay}
use Rattle.patterns.specs.Strips as strips
use Rattle.patterns.proofs.Counting.{two_staged_few}
use Rattle.patterns.proofs.NamedLaws.{two_staged_member, two_staged_worth}
use Rattle.patterns.proofs.Sizes.{sizes}
use Rattle.engines.specs.Fillings.{OfAll, stacked}
use Rattle.engines.specs.Writing.{side_rows}
use Rattle.engines.proofs.Holding.{all_held, task_stock}

module _ (m : Model) (ok : WithinLimits m) (few : length (numbers m) ≤ 64) where
  stacked_is : stacked OfAll m.length m.width (numbers m) ≡ two_staged_segment by_value m
  stacked_is = ap (λ os. stack plain m.width (map (general_strip by_value m.length os) os)) (all_held m.length m.width (numbers m) (task_stock m ok few))

  pub two_rows : side_rows OfAll (record { number = 0; x = 0; length = m.length }) m.width (numbers m) ≡ two_staged_pattern by_value m
  two_rows = ap (λ (z : strips.Segment ℕ). lay 0 0 0 0 z.strips) stacked_is

  pub two_worths : (stacked OfAll m.length m.width (numbers m)).worth ≡ worth m (two_staged_pattern by_value m)
  two_worths = ap (λ (z : strips.Segment ℕ). z.worth) stacked_is ∙ sym (two_staged_worth m ok)

pub two_few : (m : Model) → WithinLimits m → length (two_staged_pattern by_value m) ≤ 4096
two_few m ok = two_staged_few (shape m) ok.plate.0 ok.plate.1 (sizes m ok) (two_staged_pattern by_value m) (two_staged_member m ok)
