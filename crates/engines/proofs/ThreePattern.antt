-- The three-staged pattern as the engine writes it.
use Rattle.std.proofs.Common.{◌≡◌, ℕ, ◌+◌, ◌-◌, ◌<◌, ◌≤◌, false, cond, eqb, List, [], ◌∷◌, ◌++◌, length, get_or, take, sym, refl, ap, ◌∙◌, subst, arith}
use Rattle.std.specs.List.{AllByRecursion}
use Rattle.std.proofs.lemmas.List.{length-append}
use Rattle.std.proofs.lemmas.Bool.{ltb-true, ltb-false, ne_eqb}
use Rattle.choosing.specs.Numbers.{plain_laws, plain_limits}
use Rattle.choosing.proofs.Offers.{most_within}
use Rattle.layout.specs.declared.row.Row.{Row}
use Rattle.layout.specs.Tasks.{Model, WithinLimits, shape, worth}
use Rattle.patterns.specs.declared.Oriented.{Oriented}
use Rattle.patterns.specs.Named as named
use Rattle.patterns.specs.Named.{segment_at, divided, division, side_by_side, three_staged_pattern}
use Rattle.patterns.specs.Numbers.{numbers}
use Rattle.patterns.specs.Sequences.{sum}
use Rattle.patterns.specs.Strips.{Strip, by_value, no_longer, rows_of_strip, lay}
use Rattle.patterns.proofs.Lists.{all_each}
use Rattle.patterns.proofs.Candidates.{uniform_strips}
use Rattle.patterns.proofs.Chosen.{three_chosen}
use Rattle.patterns.proofs.Counting.{three_staged_few}
use Rattle.patterns.proofs.Dividing.{lowest_best}
use Rattle.patterns.proofs.Laying.{Ready}
use Rattle.patterns.proofs.NamedLaws.{three_staged_member, three_staged_worth}
use Rattle.patterns.proofs.Sizes.{sizes}
use Rattle.engines.specs.Fillings.{OfOne, left_side, right_side, uniform_worth}
use Rattle.engines.specs.Positions.{LowestGreatest, both_sides}
use Rattle.engines.specs.Writing.{Written, side_rows}
use Rattle.engines.proofs.Fairness.{strips_fair}
use Rattle.engines.proofs.Finishing.{written_few}
use Rattle.engines.proofs.Rows.{front_more}
use Rattle.engines.proofs.Holding.{held_stock, task_stock}

-- a strip has at least one row
some_rows : (m : Model) (l : ℕ) (st : Strip ℕ) (sts : List (Strip ℕ)) → Ready m l st → 0 < length (lay 0 0 0 0 (st ∷ sts))
some_rows m l st sts r = by st.pieces (omega (arith, r.worth_is, r.some))
  where
    by : (os : List Oriented) → 1 ≤ sum (λ (o : Oriented). o.value) os → 0 < length (rows_of_strip 0 0 0 0 os ++ lay 0 1 0 (0 + st.across) sts)
    by [] h = absurd (omega arith)
    by (o ∷ os) h = omega arith

-- the right segment has number 0 where there are no rows on the left
side_is : (m : Model) (c : ℕ) (left right : List (Strip ℕ)) → AllByRecursion (Ready m c) left → lay 0 0 0 0 left ++ lay (cond (eqb (length (lay 0 0 0 0 left)) 0) 0 1) 0 c 0 right ≡ side_by_side c left right
side_is m c [] right ready = refl
side_is m c (st ∷ sts) right ready =
    let some = some_rows m c st sts ready.0 in
    let no : eqb (length (lay 0 0 0 0 (st ∷ sts))) 0 ≡ false = ne_eqb (length (lay 0 0 0 0 (st ∷ sts))) 0 (λ e. omega arith) in
    ap (λ b. lay 0 0 0 0 (st ∷ sts) ++ lay (cond b 0 1) 0 c 0 right) no

module _ (m : Model) (ok : WithinLimits m) where
  -- the dividing position
  abbrev pub place : ℕ
  place = (division by_value m m.length).place

  -- the rows of the left segment, and of the right one after so many rows
  abbrev pub left_rows : ℕ → List Row
  left_rows c = side_rows OfOne (left_side c) m.width (numbers m)

  abbrev pub right_rows : ℕ → ℕ → List Row
  right_rows c before = side_rows OfOne (right_side c m.length before) m.width (numbers m)

  pub three_few : length (three_staged_pattern by_value m) ≤ 4096
  three_few = three_staged_few (shape m) ok.plate.0 ok.plate.1 (sizes m ok) (three_staged_pattern by_value m) (three_staged_member m ok)

  -- both segments are the named pattern
  pub sides_are : left_rows place ++ right_rows place (length (left_rows place)) ≡ three_staged_pattern by_value m
  sides_are =
      side_is m place (segment_at by_value m place).strips (segment_at by_value m (m.length - place)).strips
      (all_each (λ st x. x.0) (segment_at by_value m place).strips (three_chosen m ok place).each)

  -- the rows of the left segment are no more than all
  pub left_few : length (left_rows place) ≤ 4096
  left_few = omega (arith, ap length sides_are, length-append (left_rows place) (right_rows place (length (left_rows place))), three_few)

  module _ (few : length (numbers m) ≤ 64) where
    -- a segment has at most 4,096 pieces
    pub segment_small : (l : ℕ) → l ≤ 3200 → uniform_worth l m.width (numbers m) ≤ 1_000_000_000_000
    segment_small l small =
        omega (arith, most_within plain_limits 64 (uniform_strips l (numbers m)) (strips_fair l m.width (no_longer l (numbers m)) (held_stock m.length m.width (numbers m) (task_stock m ok few) l small) OfOne) plain_laws m.width ok.plate.1)

  -- ---- what the engine knows once it has the worth of a segment of each length, and the lowest position of greatest sum
  module _ (worths : List ℕ) (filled : (c : ℕ) → c < m.length + 1 → get_or worths c 0 ≡ uniform_worth c m.width (numbers m)) (r : ℕ) (chosen : LowestGreatest (both_sides worths m.length) m.length r) where
    sum_is : (c : ℕ) → c ≤ m.length → both_sides worths m.length c ≡ (divided by_value m c).worth
    sum_is c h = let a = filled c (omega arith) in let b = filled (m.length - c) (omega arith) in omega arith

    best : (c : ℕ) → c ≤ m.length → (divided by_value m c).worth ≤ (divided by_value m place).worth
    best c h =
        let b = lowest_best by_value plain_laws m m.length in
        omega (arith, ltb-false (division by_value m m.length).worth (divided by_value m c).worth (b.greatest c h), ap (λ (d : named.Division ℕ). d.worth) b.is)

    pub place_is : r ≡ place
    place_is =
        let b = lowest_best by_value plain_laws m m.length in
        let lower : r < place → ⊥ = λ h. omega (arith, ltb-true (divided by_value m r).worth (division by_value m m.length).worth (b.lowest r h), ap (λ (d : named.Division ℕ). d.worth) b.is, chosen.greatest place b.reached, sum_is r chosen.within, sum_is place b.reached) in
        let higher : place < r → ⊥ = λ h. omega (arith, chosen.lowest place h, best r chosen.within, sum_is r chosen.within, sum_is place b.reached) in
        omega (arith, lower, higher)

    -- the rows of both segments are those of the pattern
    pub both_rows : left_rows r ++ right_rows r (length (left_rows r)) ≡ three_staged_pattern by_value m
    both_rows = subst (λ c. left_rows c ++ right_rows c (length (left_rows c)) ≡ three_staged_pattern by_value m) (sym place_is) sides_are

    pub left_few_at : length (left_rows r) ≤ 4096
    left_few_at = subst (λ c. length (left_rows c) ≤ 4096) (sym place_is) left_few

    pub both_few : (before : ℕ) → before ≡ length (left_rows r) → before + length (right_rows r before) ≤ 4096
    both_few before is = omega (arith, is, ap (λ k. length (right_rows r k)) is, ap length both_rows, length-append (left_rows r) (right_rows r (length (left_rows r))), three_few)

    -- and so is their worth
    pub both_worths : uniform_worth r m.width (numbers m) + uniform_worth (m.length - r) m.width (numbers m) ≡ worth m (three_staged_pattern by_value m)
    both_worths =
        subst (λ c. uniform_worth c m.width (numbers m) + uniform_worth (m.length - c) m.width (numbers m) ≡ worth m (three_staged_pattern by_value m)) (sym place_is)
        (sym (ap (λ (d : named.Division ℕ). d.worth) (lowest_best by_value plain_laws m m.length).is) ∙ sym (three_staged_worth m ok))

    -- what is written on both sides of the dividing position
    pub both_written : (left right : ℕ) (old new post : List Row) → Written (left_rows r) old left → Written (right_rows r left) new right → Written (three_staged_pattern by_value m) (take left old ++ (new ++ post)) (left + right)
    both_written left right old new post first second =
        let whole : left_rows r ++ right_rows r left ≡ three_staged_pattern by_value m = ap (λ k. left_rows r ++ right_rows r k) first.count_is ∙ both_rows in
        record {
          count_is = omega (arith, first.count_is, second.count_is, length-append (left_rows r) (right_rows r left), ap length whole);
          front =
              front_more left right old new post (written_few (left_rows r) old left first) (written_few (right_rows r left) new right second)
              ∙ ap (λ t. t ++ take right new) first.front
              ∙ ap (λ t. left_rows r ++ t) second.front
              ∙ whole;
        }
