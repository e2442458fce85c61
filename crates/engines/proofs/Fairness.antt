-- The chooser can work on the candidates that it is offered.
use Rattle.std.proofs.Common.{ℕ, zero, suc, ◌*◌, ◌/◌, ◌<◌, ◌≤◌, List, [], ◌∷◌, map, length, subst, mul-le-mul_right, mul-le-mul_left, div-mul-le_self, arith}
use Rattle.std.specs.List.{AllByRecursion}
use Rattle.std.proofs.lemmas.Bool.{lt-ltb}
use Rattle.std.proofs.ByRecursion.{All-map}
use Rattle.choosing.specs.Choice.{size_at, worth_at, most}
use Rattle.choosing.specs.Limits.{Fair}
use Rattle.choosing.specs.Plain.{plain, PlainWithin}
use Rattle.choosing.specs.declared.Candidate.{Candidate}
use Rattle.choosing.specs.Numbers.{plain_laws, plain_limits}
use Rattle.choosing.proofs.Offers.{most_within}
use Rattle.patterns.specs.declared.Oriented.{Oriented}
use Rattle.patterns.specs.Counting.{Counts}
use Rattle.patterns.specs.Strips.{by_across, no_wider, uniform_strip, by_value, times}
use Rattle.patterns.proofs.Lists.{all_each}
use Rattle.patterns.proofs.Candidates.{Fine, all_no_wider, strip_pieces, strips_fine, uniform_fine, times_is}
use Rattle.engines.specs.Fillings.{Filled, OfAll, OfOne, strip_of}
use Rattle.engines.specs.Stock.{Stock}
use Rattle.engines.proofs.Holding.{all_count, all_held, stock_sizeable}

-- a candidate of at most p pieces
abbrev pub Few : ℕ → Candidate ℕ → Type 0
Few p c = (50 ≤ c.size) × (1 ≤ c.worth) × (c.worth ≤ 1_000_000 * p)

pub few_fair : (p : ℕ) (cands : List (Candidate ℕ)) → AllByRecursion (Few p) cands → Fair plain PlainWithin p cands
few_fair p cands ok = record { room = λ k h. (at cands ok k h).0; value = λ k h. lt-ltb 0 (worth_at plain cands k) (at cands ok k h).1; few = λ k h. (at cands ok k h).2 }
  where
    at : (cs : List (Candidate ℕ)) → AllByRecursion (Few p) cs → (k : ℕ) → k < length cs → (50 ≤ size_at cs k) × (1 ≤ worth_at plain cs k) × (worth_at plain cs k ≤ 1_000_000 * p)
    at [] a k h = absurd (omega arith)
    at (c ∷ cs) a zero h = a.0
    at (c ∷ cs) a (suc k) h = at cs a.1 k (omega arith)

-- a strip of one number has at most 64 pieces
pub few_pieces : (l w : ℕ) (q : Oriented) → l ≤ 3200 → Counts l w q → l / q.along ≤ 64
few_pieces l w q small c = omega (arith, div-mul-le_self l q.along, mul-le-mul_left (l / q.along) c.along_least)

module _ (l w : ℕ) (os : List Oriented) (stock : Stock l w os) where
  -- ---- pieces as candidates for a strip
  pieces_few : (p h : ℕ) → 1 ≤ p → AllByRecursion (Few p) (strip_pieces os h)
  pieces_few p h some = All-map (Few p) _ (no_wider h os) (all_each (λ o c. (c.0.along_least, c.0.value_least, omega (arith, c.0.value_most))) (no_wider h os) (all_no_wider (Counts l w) h os (all_count l w os stock)))

  pub pieces_fair : (h : ℕ) → Fair plain PlainWithin 64 (strip_pieces os h)
  pieces_fair h = few_fair 64 (strip_pieces os h) (pieces_few 64 h (omega arith))

  -- ---- strips as candidates for a segment

  -- a strip has at most 64 pieces
  general_most : (h : ℕ) → most plain (strip_pieces os h) l ≤ 64_000_000
  general_most h = omega (arith, most_within plain_limits 1 (strip_pieces os h) (few_fair 1 (strip_pieces os h) (pieces_few 1 h (omega arith))) plain_laws l stock.along_most)

  uniform_most : (q : Oriented) → Counts l w q → times plain (l / q.along) q.value ≤ 64_000_000
  uniform_most q c = omega (arith, times_is (l / q.along) q.value, mul-le-mul_right q.value (few_pieces l w q stock.along_most c), c.value_most)

  pub strips_fine_of : (f : Filled) → AllByRecursion Fine (map by_across (map (strip_of f l os) os))
  strips_fine_of OfAll = strips_fine l os (stock_sizeable l w os stock) (all_each (λ o c. c.along_most) os (all_count l w os stock))
  strips_fine_of OfOne = subst (λ (qs : List Oriented). AllByRecursion Fine (map by_across (map (uniform_strip by_value l) qs))) (all_held l w os stock) (uniform_fine l os (stock_sizeable l w os stock))

  one_few : (f : Filled) (q : Oriented) → Counts l w q → Fine (by_across (strip_of f l os q)) → Few 64 (by_across (strip_of f l os q))
  one_few OfAll q c fine = (c.across_least, fine.1, general_most q.across)
  one_few OfOne q c fine = (c.across_least, fine.1, uniform_most q c)

  strips_few : (f : Filled) (qs : List Oriented) → AllByRecursion (Counts l w) qs → AllByRecursion Fine (map by_across (map (strip_of f l os) qs)) → AllByRecursion (Few 64) (map by_across (map (strip_of f l os) qs))
  strips_few f [] a b = tt
  strips_few f (q ∷ qs) a b = (one_few f q a.0 b.0, strips_few f qs a.1 b.1)

  pub strips_fair : (f : Filled) → Fair plain PlainWithin 64 (map by_across (map (strip_of f l os) os))
  strips_fair f = few_fair 64 (map by_across (map (strip_of f l os) os)) (strips_few f os (all_count l w os stock) (strips_fine_of f))
