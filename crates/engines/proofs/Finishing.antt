-- A pattern that stands in the front of the rows, with blanks after it.
use Rattle.std.proofs.Common.{◌≡◌, ℕ, ◌-◌, ◌≤◌, List, ◌++◌, length, take, drop, replicate, ap, ◌∙◌, append_assoc, arith}
use Rattle.std.proofs.lemmas.List.{length-take}
use Rattle.layout.specs.declared.row.Row.{Row}
use Rattle.layout.specs.Pieces.{blank}
use Rattle.layout.specs.Tasks.{Model, worth}
use Rattle.rules.specs.Answers.{Wrote}
use Rattle.engines.specs.Writing.{Written}

-- what stands in the front is no more than the rows
pub written_few : (pattern new : List Row) (count : ℕ) → Written pattern new count → count ≤ length new
written_few pattern new count done = omega (arith, done.count_is, ap length done.front, length-take count new)

-- the rows after the pattern are blanked, up to 4,096
pub finished : (m : Model) (pattern old new first : List Row) (count w : ℕ) → length new ≡ 4096 → Written pattern new count → first ≡ take count new ++ replicate (length new - count) blank → w ≡ worth m pattern → Wrote m pattern old (first ++ drop 4096 old) (record { rows = count; worth = w })
finished m pattern old new first count w places done blanked worth_is =
    let rest : length new - count ≡ 4096 - length pattern = omega (arith, done.count_is) in
    record {
      rows =
          ap (λ t. t ++ drop 4096 old) (blanked ∙ ap (λ t. t ++ replicate (length new - count) blank) done.front ∙ ap (λ k. pattern ++ replicate k blank) rest)
          ∙ append_assoc pattern (replicate (4096 - length pattern) blank) (drop 4096 old);
      count = done.count_is;
      worth_is = worth_is;
    }
