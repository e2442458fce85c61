-- The numbers that a strip or a segment can hold.
use Rattle.std.proofs.Common.{◌≡◌, ℕ, ◌≤◌, Bool, true, false, ◌&&◌, leb, List, length, filter, refl, ap, ◌∙◌, arith}
use Rattle.std.specs.List.{AllByRecursion}
use Rattle.std.proofs.lemmas.Bool.{le-leb}
use Rattle.std.proofs.lemmas.List.Elements.{All-from_recursion, recursion_from_All}
use Rattle.std.proofs.lemmas.List.Sums.{length-filter, count_by-le-length}
use Rattle.layout.specs.Tasks.{Model, WithinLimits}
use Rattle.patterns.specs.declared.Oriented.{Oriented}
use Rattle.patterns.specs.Counting.{Counts}
use Rattle.patterns.specs.Numbers.{inside, numbers}
use Rattle.patterns.specs.Strips.{no_wider, no_longer}
use Rattle.patterns.proofs.Lists.{all_each}
use Rattle.patterns.proofs.Candidates.{Sizeable, all_no_longer, numbers_counts}
use Rattle.engines.specs.Stock.{Stock}
use Rattle.engines.proofs.Lists.{kept_same, kept_all}

and_true : (b : Bool) → (b && true) ≡ b
and_true true = refl
and_true false = refl

module _ (l w : ℕ) (os : List Oriented) (stock : Stock l w os) where
  pub all_count : AllByRecursion (Counts l w) os
  all_count = recursion_from_All (Counts l w) os stock.each

  -- of numbers that are short enough those that fit are those that are no wider
  pub narrow_is : (h : ℕ) → filter (inside l h) os ≡ no_wider h os
  narrow_is h = kept_same (inside l h) (λ (o : Oriented). leb o.across h) os (all_each (λ o c. ap (λ b. b && leb o.across h) (le-leb o.along l c.along_most)) os all_count)

  -- and of numbers that are narrow enough those that are no longer
  pub held_is : (k : ℕ) → filter (inside k w) os ≡ no_longer k os
  held_is k = kept_same (inside k w) (λ (o : Oriented). leb o.along k) os (all_each (λ o c. ap (λ b. leb o.along k && b) (le-leb o.across w c.across_most) ∙ and_true (leb o.along k)) os all_count)

  -- the numbers that a segment of another length holds
  pub held_stock : (k : ℕ) → k ≤ 3200 → Stock k w (no_longer k os)
  held_stock k small =
      record {
        few = omega (arith, stock.few, length-filter (λ (o : Oriented). leb o.along k) os, count_by-le-length (λ (o : Oriented). leb o.along k) os);
        along_most = small;
        across_most = stock.across_most;
        each =
            All-from_recursion (Counts k w) (no_longer k os)
            (all_each (λ o c. record { along_least = c.0.along_least; across_least = c.0.across_least; value_least = c.0.value_least; value_most = c.0.value_most; along_most = c.1; across_most = c.0.across_most }) (no_longer k os) (all_no_longer (Counts l w) k os all_count));
      }

  -- and all are numbers of a longer one
  pub longer_stock : (k : ℕ) → l ≤ k → k ≤ 3200 → Stock k w os
  longer_stock k le small =
      record {
        few = stock.few;
        along_most = small;
        across_most = stock.across_most;
        each =
            All-from_recursion (Counts k w) os
            (all_each (λ o c. record { along_least = c.along_least; across_least = c.across_least; value_least = c.value_least; value_most = c.value_most; along_most = omega (arith, c.along_most); across_most = c.across_most }) os all_count);
      }

  -- all of them, where the segment is as long as they may be
  pub all_held : no_longer l os ≡ os
  all_held = kept_all (λ (o : Oriented). leb o.along l) os (all_each (λ o c. le-leb o.along l c.along_most) os all_count)

  pub stock_sizeable : AllByRecursion Sizeable os
  stock_sizeable = all_each (λ o c. record { along_least = c.along_least; across_least = c.across_least; value_least = c.value_least }) os all_count

-- the numbers of a task
pub task_stock : (m : Model) → WithinLimits m → length (numbers m) ≤ 64 → Stock m.length m.width (numbers m)
task_stock m ok few = record { few = few; along_most = ok.plate.0; across_most = ok.plate.1; each = All-from_recursion (Counts m.length m.width) (numbers m) (numbers_counts m ok) }
