-- The worked plates, by computing them.
use Rattle.std.proofs.Common.{refl}
use Rattle.choosing.specs.Choice.{best}
use Rattle.patterns.specs.Examples.{WorkedCases}

pub worked : WorkedCases
unfolding best
worked = record {
  square_two = refl;
  square_two_worth = refl;
  square_three = refl;
  square_three_worth = refl;
  square_divided = refl;
  low_two = refl;
  low_two_worth = refl;
  narrow_two = refl;
  narrow_two_worth = refl;
  narrow_three = refl;
  narrow_three_worth = refl;
  printed_two = refl;
  printed_two_worth = refl;
  without_length = (refl, refl);
  without_width = (refl, refl);
  without_kinds = (refl, refl);
  none_wanted = (refl, refl);
}
