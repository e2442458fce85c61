-- The two named rules keep the laws of a cutting rule.
use Rattle.std.proofs.Common.{◌≡◌, ℕ, ◌+◌, ◌-◌, ◌<◌, ◌≤◌, List, [], ◌∷◌, ◌++◌, sym, ap, ◌∙◌, subst, All, arith}
use Rattle.std.specs.List.{AllByRecursion}
use Rattle.std.proofs.lemmas.Bool.{ltb-false}
use Rattle.std.proofs.lemmas.List.{append-nil}
use Rattle.std.proofs.lemmas.List.Elements.{All-from_recursion, All-nil, All-weaker, recursion_from_All}
use Rattle.std.proofs.ByRecursion.{All-append}
use Rattle.layout.specs.declared.row.Row.{Row}
use Rattle.layout.specs.Pieces.{end}
use Rattle.layout.specs.Tasks.{Model, Shape, WithinLimits, shape, panels, value_of, worth}
use Rattle.rules.specs.Rules.{Placed, Numbered, RuleLaws}
use Rattle.choosing.specs.Choice.{most}
use Rattle.choosing.specs.Plain.{plain}
use Rattle.choosing.specs.Numbers.{plain_laws}
use Rattle.patterns.specs.declared.Oriented.{Oriented}
use Rattle.patterns.specs.Sets.{GoesOn, InOrder, TwoStagedSet, EachTwo, Beside, Alike, ThreeStagedSet}
use Rattle.patterns.specs.Sets.GoesOn.{ends, segment}
use Rattle.patterns.specs.Numbers.{numbers}
use Rattle.patterns.specs.Sequences.{sum}
use Rattle.patterns.specs.Strips.{Strip, by_value, lay}
use Rattle.patterns.specs.Named.{two_staged_segment, two_staged_pattern, segment_at, Division, divided, division, side_by_side, three_staged_pattern}
use Rattle.patterns.proofs.Lists.{all_each, all_both, all_in, in_all, sum_join}
use Rattle.patterns.proofs.Sizes.{along_of, across_of, sizes}
use Rattle.patterns.proofs.Apart.{two_staged_apart, three_staged_apart}
use Rattle.patterns.proofs.Counting.{strip_numbers, two_staged_few, three_staged_few}
use Rattle.patterns.proofs.Worths.{worth_sum, two_staged_most, three_staged_most}
use Rattle.patterns.proofs.Candidates.{general_strips}
use Rattle.patterns.proofs.Laying.{Ready, Laid, laid, begins, worth_lay}
use Rattle.patterns.proofs.Chosen.{Uniform, two_chosen, three_chosen, kind_of_strip, Belongs, belong}
use Rattle.patterns.proofs.Dividing.{lowest_best}

some_size : (m : Model) → WithinLimits m → (r : Row) → Placed (shape m) r → (0 < along_of (shape m) r) × (0 < across_of (shape m) r)
some_size m ok r p = let z = sizes m ok r p in (omega arith, omega arith)

-- a segment 0, and what may follow it
in_order : (m : Model) (lo l : ℕ) (more : List Row) → ((q : Row) (before : List Row) → q.segment ≡ 0 → GoesOn (shape m) q before more) → (st : Strip ℕ) (sts : List (Strip ℕ)) → AllByRecursion (Ready m l) (st ∷ sts) → InOrder (shape m) (lay 0 0 lo 0 (st ∷ sts) ++ more)
in_order m lo l more then st sts ok =
    let b = begins m 0 lo l more then st sts ok in
    subst (InOrder (shape m)) (sym b.is) (record { segment = b.segment; strip = b.strip; next = b.next })

-- a segment 0 alone
alone : (m : Model) (lo l : ℕ) (sts : List (Strip ℕ)) → AllByRecursion (Ready m l) sts → InOrder (shape m) (lay 0 0 lo 0 sts)
alone m lo l [] ok = tt
alone m lo l (st ∷ sts) ok = subst (InOrder (shape m)) (append-nil (lay 0 0 lo 0 (st ∷ sts))) (in_order m lo l [] (λ q before e. ends) st sts ok)

-- ---- two-staged

module _ (m : Model) (ok : WithinLimits m) where
  pub two_staged_member : TwoStagedSet (shape m) (two_staged_pattern by_value m)
  two_staged_member =
      let b = two_chosen m ok in
      let all = laid m 0 0 m.length (omega arith) 0 0 (two_staged_segment by_value m).strips b.each (omega (arith, b.within)) in
      record {
        placed = All-from_recursion (Placed (shape m)) (two_staged_pattern by_value m) (all_each (λ r x. x.placed) (two_staged_pattern by_value m) all);
        order = alone m 0 m.length (two_staged_segment by_value m).strips b.each;
        one = All-from_recursion (λ (r : Row). r.segment ≡ 0) (two_staged_pattern by_value m) (all_each (λ r x. x.segment) (two_staged_pattern by_value m) all);
      }

  pub two_staged_worth : worth m (two_staged_pattern by_value m) ≡ most plain (general_strips m.length (numbers m)) m.width
  two_staged_worth =
      let b = two_chosen m ok in
      worth_sum m (two_staged_pattern by_value m) ∙ worth_lay m 0 0 0 0 m.length (two_staged_segment by_value m).strips b.each ∙ b.worth_is

-- rows of segments 0 and 1 are numbered within the limits
few_numbered : (m : Model) → WithinLimits m → (rows : List Row) → All (Placed (shape m)) rows → InOrder (shape m) rows → All (λ (r : Row). r.segment ≤ 1) rows → All Numbered rows
few_numbered m ok rows placed order two =
    All-from_recursion Numbered rows
    (all_both (λ (r : Row). r.segment ≤ 7) (λ (r : Row). r.strip ≤ 63) rows (all_each (λ r e. omega arith) rows (recursion_from_All (λ (r : Row). r.segment ≤ 1) rows two)) (strip_numbers (shape m) ok.plate.0 ok.plate.1 (sizes m ok) rows (recursion_from_All (Placed (shape m)) rows placed) order))

pub two_staged_laws : RuleLaws TwoStagedSet (two_staged_pattern by_value) 3200 3 0
two_staged_laws =
    record {
      far = omega arith;
      staged = omega arith;
      empty = λ m a. record { placed = All-nil (Placed (shape m)); order = tt; one = All-nil (λ (r : Row). r.segment ≡ 0) };
      proper = λ m a rows set. record {
        few = two_staged_few (shape m) a.limits.plate.0 a.limits.plate.1 (sizes m a.limits) rows set;
        placed = set.placed;
        numbered = few_numbered m a.limits rows set.placed set.order (All-weaker (λ (r : Row). r.segment ≡ 0) (λ (r : Row). r.segment ≤ 1) (λ r e. omega arith) rows set.one);
        apart = two_staged_apart (shape m) (some_size m a.limits) rows set;
      };
      member = λ m a. two_staged_member m a.limits;
      most = λ m a rows set. omega (arith, two_staged_worth m a.limits, two_staged_most m a.limits rows set);
    }

-- ---- three-staged

each_two : (R : Row → Row → Type 0) (P : Row → Type 0) (rows : List Row) → ((q r : Row) → P q → P r → R q r) → AllByRecursion P rows → EachTwo R rows
each_two R P rows f ok =
    All-from_recursion (λ (q : Row). All (R q) rows) rows
    (all_in (λ (q : Row). All (R q) rows) rows (λ q i. All-from_recursion (R q) rows (all_in (R q) rows (λ r j. f q r (in_all P i ok) (in_all P j ok)))))

-- a row of segment 0, left of c, or of segment 1, right of c; and the number that its strip is made of
data Side (s : Shape) (c : ℕ) (lows highs : ℕ → Oriented) (r : Row) : Type 0 where
  low : Placed s r → r.segment ≡ 0 → end (panels s) r ≤ c → Belongs 0 lows r → Side s c lows highs r
  high : Placed s r → r.segment ≡ 1 → c ≤ r.x → Belongs 0 highs r → Side s c lows highs r

module _ (s : Shape) (c : ℕ) (lows highs : ℕ → Oriented) where
  side_placed : (r : Row) → Side s c lows highs r → Placed s r
  side_placed r (low p e x b) = p
  side_placed r (high p e x b) = p

  side_two : (r : Row) → Side s c lows highs r → r.segment ≤ 1
  side_two r (low p e x b) = omega arith
  side_two r (high p e x b) = omega arith

  side_beside : (q r : Row) → Side s c lows highs q → Side s c lows highs r → Beside s q r
  side_beside q r (low p e x b) (low p' e' x' b') zero_q one_r = absurd (omega arith)
  side_beside q r (low p e x b) (high p' e' x' b') zero_q one_r = omega arith
  side_beside q r (high p e x b) z zero_q one_r = absurd (omega arith)

  one_sort : (sort : ℕ → Oriented) (q r : Row) → Belongs 0 sort q → Belongs 0 sort r → q.strip ≡ r.strip → (q.kind ≡ r.kind) × (q.turned ≡ r.turned)
  one_sort sort q r a b e =
      let j : a.above ≡ b.above = omega (arith, a.strip, b.strip) in
      (a.kind ∙ ap (λ n. (sort n).kind) j ∙ sym b.kind, a.turned ∙ ap (λ n. (sort n).turned) j ∙ sym b.turned)

  side_alike : (q r : Row) → Side s c lows highs q → Side s c lows highs r → Alike q r
  side_alike q r (low p e x b) (low p' e' x' b') g n = one_sort lows q r b b' n
  side_alike q r (low p e x b) (high p' e' x' b') g n = absurd (omega arith)
  side_alike q r (high p e x b) (low p' e' x' b') g n = absurd (omega arith)
  side_alike q r (high p e x b) (high p' e' x' b') g n = one_sort highs q r b b' n

  sided : (rows : List Row) → InOrder s rows → AllByRecursion (Side s c lows highs) rows → ThreeStagedSet s rows
  sided rows order ok =
      record {
        placed = All-from_recursion (Placed s) rows (all_each side_placed rows ok);
        order = order;
        two = All-from_recursion (λ (r : Row). r.segment ≤ 1) rows (all_each side_two rows ok);
        beside = each_two (Beside s) (Side s c lows highs) rows side_beside ok;
        alike = each_two Alike (Side s c lows highs) rows side_alike ok;
      }

module _ (m : Model) where
  -- segment 1, after a row of segment 0
  right_goes : (c l : ℕ) (sts : List (Strip ℕ)) → AllByRecursion (Ready m l) sts → (q : Row) (before : List Row) → q.segment ≡ 0 → GoesOn (shape m) q before (lay 1 0 c 0 sts)
  right_goes c l [] ok q before e = ends
  right_goes c l (st ∷ sts) ok q before e =
      let b = begins m 1 c l [] (λ p earlier f. ends) st sts ok in
      subst (GoesOn (shape m) q before) (sym b.is ∙ append-nil (lay 1 0 c 0 (st ∷ sts))) (segment (record { segment = omega (arith, b.segment); strip = b.strip }) b.next)

  -- two segments of uniform strips that fit the plate
  side_by_side_member : (c : ℕ) → c ≤ m.length → (left right : List (Strip ℕ)) → AllByRecursion (λ (st : Strip ℕ). Ready m c st × Uniform st) left → AllByRecursion (λ (st : Strip ℕ). Ready m (m.length - c) st × Uniform st) right
      → sum (λ (st : Strip ℕ). st.across) left ≤ m.width → sum (λ (st : Strip ℕ). st.across) right ≤ m.width → ThreeStagedSet (shape m) (side_by_side c left right)
  side_by_side_member c within [] right a b ha hb =
      let ready = all_each (λ st x. x.0) right b in
      let sort = kind_of_strip right (all_each (λ st x. x.1) right b) in
      sided (shape m) m.length sort sort (lay 0 0 c 0 right) (alone m c (m.length - c) right ready)
      (all_each (λ r x. low x.0.placed x.0.segment x.0.placed.inside_along x.1) (lay 0 0 c 0 right)
      (all_both (Laid (shape m) 0 c (m.length - c)) (Belongs 0 sort) (lay 0 0 c 0 right) (laid m 0 c (m.length - c) (omega arith) 0 0 right ready (omega arith)) (belong 0 0 c 0 right (all_each (λ st x. x.1) right b))))
  side_by_side_member c within (st ∷ sts) right a b ha hb =
      let left = st ∷ sts in
      let ready_a = all_each (λ st x. x.0) left a in
      let ready_b = all_each (λ st x. x.0) right b in
      let lows = kind_of_strip left (all_each (λ st x. x.1) left a) in
      let highs = kind_of_strip right (all_each (λ st x. x.1) right b) in
      sided (shape m) c lows highs (lay 0 0 0 0 left ++ lay 1 0 c 0 right) (in_order m 0 c (lay 1 0 c 0 right) (right_goes c (m.length - c) right ready_b) st sts ready_a)
      (All-append (Side (shape m) c lows highs) (lay 0 0 0 0 left) (lay 1 0 c 0 right)
      (all_each (λ r x. low x.0.placed x.0.segment (omega (arith, x.0.right)) x.1) (lay 0 0 0 0 left)
      (all_both (Laid (shape m) 0 0 c) (Belongs 0 lows) (lay 0 0 0 0 left) (laid m 0 0 c (omega arith) 0 0 left ready_a (omega arith)) (belong 0 0 0 0 left (all_each (λ st x. x.1) left a))))
      (all_each (λ r x. high x.0.placed x.0.segment x.0.left x.1) (lay 1 0 c 0 right)
      (all_both (Laid (shape m) 1 c (m.length - c)) (Belongs 0 highs) (lay 1 0 c 0 right) (laid m 1 c (m.length - c) (omega arith) 0 0 right ready_b (omega arith)) (belong 1 0 c 0 right (all_each (λ st x. x.1) right b)))))

  side_by_side_worth : (c l : ℕ) (left right : List (Strip ℕ)) → AllByRecursion (Ready m c) left → AllByRecursion (Ready m l) right → worth m (side_by_side c left right) ≡ sum (λ (st : Strip ℕ). st.worth) left + sum (λ (st : Strip ℕ). st.worth) right
  side_by_side_worth c l [] right a b = worth_sum m (lay 0 0 c 0 right) ∙ worth_lay m 0 0 c 0 l right b ∙ omega arith
  side_by_side_worth c l (st ∷ sts) right a b =
      let e = worth_sum m (lay 0 0 0 0 (st ∷ sts) ++ lay 1 0 c 0 right) in
      let f = sum_join (value_of m) (lay 0 0 0 0 (st ∷ sts)) (lay 1 0 c 0 right) in
      e ∙ f ∙ omega (arith, worth_lay m 0 0 0 0 c (st ∷ sts) a, worth_lay m 1 0 c 0 l right b)

  module _ (ok : WithinLimits m) where
    pub three_staged_member : ThreeStagedSet (shape m) (three_staged_pattern by_value m)
    three_staged_member =
        let c = (division by_value m m.length).place in
        let d = lowest_best by_value plain_laws m m.length in
        let a = three_chosen m ok c in
        let b = three_chosen m ok (m.length - c) in
        side_by_side_member c d.reached (segment_at by_value m c).strips (segment_at by_value m (m.length - c)).strips a.each b.each a.within b.within

    pub three_staged_worth : worth m (three_staged_pattern by_value m) ≡ (division by_value m m.length).worth
    three_staged_worth =
        let c = (division by_value m m.length).place in
        let d = lowest_best by_value plain_laws m m.length in
        let a = three_chosen m ok c in
        let b = three_chosen m ok (m.length - c) in
        side_by_side_worth c (m.length - c) (segment_at by_value m c).strips (segment_at by_value m (m.length - c)).strips (all_each (λ st x. x.0) (segment_at by_value m c).strips a.each) (all_each (λ st x. x.0) (segment_at by_value m (m.length - c)).strips b.each)
        ∙ omega (arith, a.worth_is, b.worth_is)
        ∙ sym (ap (λ (z : Division ℕ). z.worth) d.is)

    three_staged_greatest : (rows : List Row) → ThreeStagedSet (shape m) rows → worth m rows ≤ worth m (three_staged_pattern by_value m)
    three_staged_greatest rows set =
        let x = three_staged_most m ok rows set in
        let d = lowest_best by_value plain_laws m m.length in
        let g : (divided by_value m x.0).worth ≤ (division by_value m m.length).worth = ltb-false (division by_value m m.length).worth (divided by_value m x.0).worth (d.greatest x.0 x.1) in
        omega (arith, x.2, g, three_staged_worth)

pub three_staged_laws : RuleLaws ThreeStagedSet (three_staged_pattern by_value) 3200 3 0
three_staged_laws =
    record {
      far = omega arith;
      staged = omega arith;
      empty = λ m a. record { placed = All-nil (Placed (shape m)); order = tt; two = All-nil (λ (r : Row). r.segment ≤ 1); beside = All-nil (λ (q : Row). All (Beside (shape m) q) []); alike = All-nil (λ (q : Row). All (Alike q) []) };
      proper = λ m a rows set. record {
        few = three_staged_few (shape m) a.limits.plate.0 a.limits.plate.1 (sizes m a.limits) rows set;
        placed = set.placed;
        numbered = few_numbered m a.limits rows set.placed set.order set.two;
        apart = three_staged_apart (shape m) (some_size m a.limits) rows set;
      };
      member = λ m a. three_staged_member m a.limits;
      most = λ m a rows set. three_staged_greatest m a.limits rows set;
    }
