-- What the chooser chooses, in numbers: pieces for a strip, and strips for a segment.
use Rattle.std.proofs.Common.{◌≡◌, ℕ, ◌/◌, ◌<◌, ◌≤◌, List, [], ◌∷◌, map, length, sym, refl, ap, ◌∙◌, subst, div-mul-le_self, arith}
use Rattle.std.specs.List.{All, AllByRecursion}
use Rattle.std.proofs.lemmas.List.{length-map}
use Rattle.std.proofs.lemmas.Simd.{map-map}
use Rattle.std.proofs.lemmas.List.Elements.{All-from_recursion}
use Rattle.choosing.specs.Choice.{first}
use Rattle.choosing.specs.Plain.{plain}
use Rattle.choosing.specs.declared.Candidate.{Candidate}
use Rattle.choosing.proofs.Choosing.{right_best}
use Rattle.choosing.specs.Numbers.{plain_laws}
use Rattle.patterns.specs.declared.Oriented.{Oriented}
use Rattle.patterns.specs.Counting.{Counts}
use Rattle.patterns.specs.Numbers.{no_piece}
use Rattle.patterns.specs.Sequences.{sum}
use Rattle.patterns.specs.Strips.{by_value, by_along, by_across, no_strip, at, no_wider, no_longer, lay, stack}
use Rattle.patterns.proofs.Candidates.{Fine, all_sound, pieces_fine}
use Rattle.patterns.proofs.Chosen.{best, sum_replicate}
use Rattle.engines.specs.Fillings.{Filled, OfAll, OfOne, strip_of, strips_of}
use Rattle.engines.specs.Stock.{Stock}
use Rattle.engines.specs.Writing.{sum_along, sum_across, strip_rows, side_rows}
use Rattle.engines.proofs.Lists.{at_map, known_all}
use Rattle.engines.proofs.Holding.{all_count, stock_sizeable}
use Rattle.engines.proofs.Fairness.{strips_fine_of}

-- a strip takes the across size of its number
pub strip_across : (f : Filled) (l : ℕ) (os : List Oriented) (q : Oriented) → (strip_of f l os q).across ≡ q.across
strip_across OfAll l os q = refl
strip_across OfOne l os q = refl

module _ (l w : ℕ) (os : List Oriented) (stock : Stock l w os) (f : Filled) where
  -- ---- the pieces of a strip
  pub pieces_along : (q : Oriented) → sum_along (strip_of f l os q).pieces ≤ l
  pieces_along q = by f
    where
      all_units : {A : Type 0} (xs : List A) → AllByRecursion (λ (a : A). Unit {0}) xs
      all_units [] = tt
      all_units (x ∷ xs) = (tt, all_units xs)

      by : (g : Filled) → sum_along (strip_of g l os q).pieces ≤ l
      by OfAll = (best (by_along by_value) no_piece (λ (o : Oriented). Unit {0}) (no_wider q.across os) l (all_units (no_wider q.across os)) (pieces_fine os (stock_sizeable l w os stock) q.across)).within
      by OfOne = omega (arith, sum_replicate (λ (o : Oriented). o.along) q (l / q.along), div-mul-le_self l q.along)

  -- ---- the strips of a segment

  pub strips_known : AllByRecursion (λ (k : ℕ). k < length os) (first plain (map by_across (map (strip_of f l os) os)) w).order
  strips_known =
      let cands : List (Candidate ℕ) = map by_across (map (strip_of f l os) os) in
      known_all cands os (first plain cands w).order (omega (arith, length-map (map (strip_of f l os) os) by_across, length-map os (strip_of f l os))) (right_best plain_laws cands (all_sound cands (strips_fine_of l w os stock f)) w w (omega arith)).feasible.known

  pub strips_are : (stack plain w (map (strip_of f l os) os)).strips ≡ map (strip_of f l os) (strips_of f l w os)
  strips_are = at_map (strip_of f l os) no_piece (no_strip plain) os (first plain (map by_across (map (strip_of f l os) os)) w).order strips_known

  -- what is known of the numbers whose strips are chosen
  picked : (P : Oriented → Type 0) → AllByRecursion P os → AllByRecursion P (strips_of f l w os) × (sum (λ (q : Oriented). (strip_of f l os q).across) (strips_of f l w os) ≤ w)
  picked P ok =
      let twice = map-map by_across (strip_of f l os) os in
      let b = best (λ (q : Oriented). by_across (strip_of f l os q)) no_piece P os w ok (subst (AllByRecursion Fine) twice (strips_fine_of l w os stock f)) in
      subst (λ (cands : List (Candidate ℕ)). AllByRecursion P (at no_piece os (first plain cands w).order) × (sum (λ (q : Oriented). (strip_of f l os q).across) (at no_piece os (first plain cands w).order) ≤ w)) (sym twice) (b.each, b.within)

  sum_across_is : (qs : List Oriented) → sum_across qs ≡ sum (λ (q : Oriented). (strip_of f l os q).across) qs
  sum_across_is [] = refl
  sum_across_is (q ∷ qs) = omega (arith, strip_across f l os q, sum_across_is qs)

  pub strips_across : sum_across (strips_of f l w os) ≤ w
  strips_across = omega (arith, sum_across_is (strips_of f l w os), (picked (Counts l w) (all_count l w os stock)).1)

  pub strips_count : All (Counts l w) (strips_of f l w os)
  strips_count = All-from_recursion (Counts l w) (strips_of f l w os) (picked (Counts l w) (all_count l w os stock)).0

-- the strips that are laid are those that are chosen for a segment
pub chosen_rows : (f : Filled) (l w : ℕ) (os : List Oriented) (held_l held_w : ℕ) (held : List Oriented) → Stock held_l held_w held → held_l ≡ l → held_w ≡ w → held ≡ no_longer l os
    → (number x : ℕ) → strip_rows f (record { segment = number; strip = 0; x = x; y = 0 }) held_l held (strips_of f held_l held_w held) ≡ side_rows f (record { number = number; x = x; length = l }) w os
chosen_rows f l w os held_l held_w held stock is_l is_w is number x =
    ap (λ sts. lay number 0 x 0 sts) (sym (strips_are held_l held_w held stock f))
    ∙ ap (λ qs. lay number 0 x 0 (stack plain held_w (map (strip_of f held_l qs) qs)).strips) is
    ∙ ap (λ k. lay number 0 x 0 (stack plain k (map (strip_of f held_l (no_longer l os)) (no_longer l os))).strips) is_w
    ∙ ap (λ k. lay number 0 x 0 (stack plain w (map (strip_of f k (no_longer l os)) (no_longer l os))).strips) is_l
