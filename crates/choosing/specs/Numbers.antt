-- The plain worth keeps the laws.
use Rattle.std.specs.Prelude.{◌+◌}
use Rattle.std.proofs.Common.{arith}
use Rattle.std.proofs.lemmas.Bool.{ltb-true, ltb-false, lt-ltb, le-ltb}
use Rattle.choosing.specs.Worth.{Laws, Limits}
use Rattle.choosing.specs.Recursion.{Commutes}
use Rattle.choosing.specs.Plain.{plain, PlainWithin}

pub plain_laws : Laws plain
plain_laws = record {
  left = λ a. omega arith;
  right = λ a. omega arith;
  assoc = λ a b c. omega arith;
  never = λ a. le-ltb a a (omega arith);
  chain = λ a b c h g. lt-ltb a c (omega (arith, ltb-true a b h, ltb-true b c g));
  total = λ a b h g. omega (arith, ltb-false a b h, ltb-false b a g);
  raised = λ c a b h. lt-ltb (c + a) (c + b) (omega (arith, ltb-true a b h));
}

pub plain_limits : Limits plain PlainWithin
plain_limits = record { none = omega arith; sum = λ m n a b h g. omega arith; more = λ m n a l h. omega arith }

pub plain_commutes : Commutes plain
plain_commutes a b = omega arith
