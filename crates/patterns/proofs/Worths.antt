-- No pattern of either set is worth more than the best choice of strips.
use Rattle.std.proofs.Common.{◌≡◌, ℕ, suc, ◌+◌, ◌-◌, ◌*◌, ◌/◌, ◌≤◌, List, [], ◌∷◌, sym, refl, ap, mul-le-mul_right, suc-mul, le-div_iff_mul-le, zero-mul, arith}
use Rattle.std.proofs.lemmas.List.Elements.{recursion_from_All}
use native.Mathlib.Decide.{dec_le}
use Rattle.std.specs.List.{AllByRecursion}
use Rattle.layout.specs.declared.row.Row.{Row}
use Rattle.layout.specs.Pieces.{end, top}
use Rattle.layout.specs.Tasks.{Model, Shape, WithinLimits, shape, panels, value_of, worth}
use Rattle.rules.specs.Rules.{Placed}
use Rattle.choosing.specs.Choice.{total_size, total_worth, Known, most}
use Rattle.choosing.specs.Plain.{plain}
use Rattle.patterns.specs.Sets.{NextSegment, GoesOn, TwoStagedSet, ThreeStagedSet}
use Rattle.patterns.specs.Numbers.{numbers}
use Rattle.patterns.specs.Sequences.{sum}
use Rattle.patterns.specs.Strips.{by_value, by_along, by_across, general_strip, uniform_strip}
use Rattle.patterns.proofs.Lists.{all_each, all_both, In, here, there, in_all, in_map}
use Rattle.patterns.proofs.Sizes.{along_of, across_of}
use Rattle.patterns.proofs.Runs.{Run, run_one, segment_bound}
use Rattle.patterns.proofs.Sides.{Sided, sides, alike}
use Rattle.patterns.proofs.Numbered.{numbered, numbers_counted}
use Rattle.patterns.proofs.Candidates.{Fine, Sizeable, sizeable, greatest, grows, taken, placed, in_preferred, in_no_wider, in_no_longer, strip_pieces, general_strips, uniform_strips, pieces_fine, strips_fine, uniform_fine, times_is}

pub worth_sum : (m : Model) (rows : List Row) → worth m rows ≡ sum (value_of m) rows
worth_sum m [] = refl
worth_sum m (r ∷ rows) = omega (arith, worth_sum m rows)

-- the tallest piece of a strip
record Tallest (s : Shape) (rows : List Row) : Type 0 where
  which : Row
  among : In which rows
  tall : AllByRecursion (λ (r : Row). across_of s r ≤ across_of s which) rows

tallest : (s : Shape) (p : Row) (earlier : List Row) → Tallest s (p ∷ earlier)
tallest s p [] = record { which = p; among = here; tall = (omega arith, tt) }
tallest s p (q ∷ earlier) = by (tallest s q earlier)
  where
    by : Tallest s (q ∷ earlier) → Tallest s (p ∷ (q ∷ earlier))
    by t = elim (dec_le (across_of s p) (across_of s t.which)) [
      | yes le ↦ record { which = t.which; among = there t.among; tall = (le, t.tall) }
      | no gt ↦ record { which = p; among = here; tall = (omega arith, all_each (λ r h. omega arith) (q ∷ earlier) t.tall) }
    ]

module _ (m : Model) (ok : WithinLimits m) where
  pub all_sizeable : AllByRecursion Sizeable (numbers m)
  all_sizeable = all_each (λ o c. sizeable m ok o c) (numbers m) (numbers_counted m)

  pub two_fine : AllByRecursion Fine (general_strips m.length (numbers m))
  two_fine = strips_fine m.length (numbers m) all_sizeable (all_each (λ o c. c.along_most) (numbers m) (numbers_counted m))

  -- ---- two-staged

  -- rows no wider than h, as a sequence of candidates
  record Sequence (h : ℕ) (rows : List Row) : Type 0 where
    order : List ℕ
    known : Known (strip_pieces (numbers m) h) order
    size_is : total_size (strip_pieces (numbers m) h) order ≡ sum (along_of (shape m)) rows
    worth_is : total_worth plain (strip_pieces (numbers m) h) order ≡ sum (value_of m) rows

  sequence : (h : ℕ) (rows : List Row) → AllByRecursion (Placed (shape m)) rows → AllByRecursion (λ (r : Row). across_of (shape m) r ≤ h) rows → Sequence h rows
  sequence h [] p a = record { order = []; known = tt; size_is = refl; worth_is = refl }
  sequence h (r ∷ rows) p a =
      let o = numbered m r p.0 in
      let k = placed (by_along by_value) (in_no_wider h o.1 (omega (arith, o.2.across_is, a.0))) in
      let rest = sequence h rows p.1 a.1 in
      record {
        order = k.0 ∷ rest.order;
        known = (k.1, rest.known);
        size_is = omega (arith, k.2, o.2.along_is, rest.size_is);
        worth_is = omega (arith, k.3, o.2.value_is, rest.worth_is);
      }

  two_step : (p : Row) (earlier : List Row) → Run (shape m) 0 p earlier → p.segment ≡ 0 → AllByRecursion (λ (r : Row). Placed (shape m) r × (r.segment ≡ 0)) (p ∷ earlier) → (t : ℕ) → t ≤ m.width → AllByRecursion (λ (q : Row). top (panels (shape m)) q ≤ t) (p ∷ earlier) → sum (value_of m) (p ∷ earlier) + most plain (general_strips m.length (numbers m)) (m.width - t) ≤ most plain (general_strips m.length (numbers m)) (m.width - p.y)
  two_step p earlier run e each t h tops =
      let q = tallest (shape m) p earlier in
      let o = numbered m q.which (in_all (Placed (shape m)) q.among run.placed) in
      let k = placed by_across (in_map (general_strip by_value m.length (numbers m)) (in_preferred o.1)) in
      let js = sequence o.0.across (p ∷ earlier) run.placed (all_each (λ r z. omega (arith, o.2.across_is)) (p ∷ earlier) q.tall) in
      let mine = greatest (strip_pieces (numbers m) o.0.across) (pieces_fine (numbers m) all_sizeable o.0.across) m.length js.order (record { known = js.known; within = omega (arith, js.size_is, run.room, run.placed.0.inside_along) }) in
      let level = in_all (λ (r : Row). (r.y ≡ p.y) × (r.segment ≡ p.segment) × (r.strip ≡ p.strip)) q.among run.level in
      let high = in_all (λ (r : Row). top (panels (shape m)) r ≤ t) q.among tops in
      omega (
        arith,
        js.worth_is,
        k.3,
        taken (general_strips m.length (numbers m)) two_fine m.width p.y t k.0 k.1 (omega (arith, k.2, o.2.across_is, level.0)) h,
      )

  pub two_staged_most : (rows : List Row) → TwoStagedSet (shape m) rows → worth m rows ≤ most plain (general_strips m.length (numbers m)) m.width
  two_staged_most [] set = omega arith
  two_staged_most (r ∷ rows) set =
      let stood = recursion_from_All (Placed (shape m)) (r ∷ rows) set.placed in
      let one = recursion_from_All (λ (q : Row). q.segment ≡ 0) (r ∷ rows) set.one in
      let b = segment_bound (shape m) 0 0 (λ (q : Row). Placed (shape m) q × (q.segment ≡ 0)) (λ q z. z.0) (λ q z e. omega arith)
      (value_of m) (λ y. most plain (general_strips m.length (numbers m)) (m.width - y)) 0
      two_step (λ q b rest e n g all. absurd (omega (arith, n.segment, all.0.1)))
      r [] rows set.order.next (run_one stood.0 (omega arith)) one.0 ((stood.0, one.0), tt) (all_both (Placed (shape m)) (λ (q : Row). q.segment ≡ 0) rows stood.1 one.1) in
      omega (arith, b, worth_sum m (r ∷ rows), grows (general_strips m.length (numbers m)) two_fine (m.width - r.y) m.width (omega arith))

  -- ---- three-staged

  -- the pieces of a strip are as many as the first one
  same_sum : (f : Row → ℕ) (a : ℕ) (rows : List Row) → AllByRecursion (λ (r : Row). f r ≡ a) rows → sum f rows ≡ sum (λ (r : Row). 1) rows * a
  same_sum f a [] e = sym (zero-mul a)
  same_sum f a (r ∷ rows) e = omega (arith, same_sum f a rows e.1, e.0, suc-mul (sum (λ (q : Row). 1) rows) a, ap (λ n. n * a) (let z : 1 + sum (λ (q : Row). 1) rows ≡ suc (sum (λ (q : Row). 1) rows) = omega arith in z))

  module _ (all : List Row) (set : ThreeStagedSet (shape m) all) (c : ℕ) where
    -- a segment of length l that begins at lo
    module _ (g lo l : ℕ) (right : (r : Row) → Sided (shape m) c all r → r.segment ≡ g → end (panels (shape m)) r ≤ lo + l) where
      three_step : (p : Row) (earlier : List Row) → Run (shape m) lo p earlier → p.segment ≡ g → AllByRecursion (Sided (shape m) c all) (p ∷ earlier) → (t : ℕ) → t ≤ m.width → AllByRecursion (λ (q : Row). top (panels (shape m)) q ≤ t) (p ∷ earlier) → sum (value_of m) (p ∷ earlier) + most plain (uniform_strips l (numbers m)) (m.width - t) ≤ most plain (uniform_strips l (numbers m)) (m.width - p.y)
      three_step p earlier run e each t h tops =
          let o = numbered m p run.placed.0 in
          let n = sum (λ (r : Row). 1) (p ∷ earlier) in
          let a = o.0.along in
          let v = o.0.value in
          let z = in_all Sizeable o.1 all_sizeable in
          let like = all_both (Sided (shape m) c all) (λ (r : Row). (r.y ≡ p.y) × (r.segment ≡ p.segment) × (r.strip ≡ p.strip)) (p ∷ earlier) each run.level in
          let alongs : sum (along_of (shape m)) (p ∷ earlier) ≡ n * a = same_sum (along_of (shape m)) a (p ∷ earlier) (all_each (λ r x. same_along r p a o.2.along_is (alike (shape m) all set r p x.0.among each.0.among x.1.1 x.1.2)) (p ∷ earlier) like) in
          let values : sum (value_of m) (p ∷ earlier) ≡ n * v = same_sum (value_of m) v (p ∷ earlier) (all_each (λ r x. same_value r p v o.2.value_is (alike (shape m) all set r p x.0.among each.0.among x.1.1 x.1.2)) (p ∷ earlier) like) in
          let fits : n * a ≤ l = omega (arith, run.room, right p each.0 e) in
          let one : 1 * a ≤ n * a = mul-le-mul_right a (let q : 1 ≤ n = omega arith in q) in
          let many : n ≤ l / a = (le-div_iff_mul-le {k = a} {x = n} {y = l} (omega (arith, z.along_least))).1 fits in
          let k = placed by_across (in_map (uniform_strip by_value l) (in_no_longer l (in_preferred o.1) (omega arith))) in
          omega (
            arith,
            mul-le-mul_right v many,
            times_is (l / a) v,
            k.3,
            taken (uniform_strips l (numbers m)) (uniform_fine l (numbers m) all_sizeable) m.width p.y t k.0 k.1 (omega (arith, k.2, o.2.across_is, tops.0)) h,
          )
        where
          same_along : (r q : Row) (a : ℕ) → a ≡ along_of (shape m) q → (r.kind ≡ q.kind) × (r.turned ≡ q.turned) → along_of (shape m) r ≡ a
          same_along r q a e (k, t) = cc

          same_value : (r q : Row) (v : ℕ) → v ≡ value_of m q → (r.kind ≡ q.kind) × (r.turned ≡ q.turned) → value_of m r ≡ v
          same_value r q v e (k, t) = cc

      -- a whole segment
      segment_most : (left : (r : Row) → Sided (shape m) c all r → r.segment ≡ g → lo ≤ r.x) (aside : ℕ)
          → ((q r : Row) (rest : List Row) → q.segment ≡ g → NextSegment q r → GoesOn (shape m) r [] rest → AllByRecursion (Sided (shape m) c all) (r ∷ rest) → sum (value_of m) (r ∷ rest) ≤ aside)
          → (p : Row) (rows : List Row) → GoesOn (shape m) p [] rows → p.segment ≡ g → AllByRecursion (Sided (shape m) c all) (p ∷ rows) → sum (value_of m) (p ∷ rows) ≤ most plain (uniform_strips l (numbers m)) m.width + aside
      segment_most left aside next p rows go e each =
          let b = segment_bound (shape m) g lo (Sided (shape m) c all) (λ r z. z.placed) left (value_of m) (λ y. most plain (uniform_strips l (numbers m)) (m.width - y)) aside
          three_step next p [] rows go (run_one each.0.placed (left p each.0 e)) e (each.0, tt) each.1 in
          omega (arith, b, grows (uniform_strips l (numbers m)) (uniform_fine l (numbers m) all_sizeable) (m.width - p.y) m.width (omega arith))

  pub three_staged_most : (rows : List Row) → ThreeStagedSet (shape m) rows → (c : ℕ) × (c ≤ m.length) × (worth m rows ≤ most plain (uniform_strips c (numbers m)) m.width + most plain (uniform_strips (m.length - c) (numbers m)) m.width)
  three_staged_most [] set = (0, omega arith, omega arith)
  three_staged_most (r ∷ rows) set =
      let d = sides (shape m) (r ∷ rows) set in (
        d.0,
        d.1,
        omega (
          arith,
          worth_sum m (r ∷ rows),
          segment_most (r ∷ rows) set d.0 0 0 d.0 (λ q z e. omega (arith, z.left e)) (λ q z e. omega arith)
              (most plain (uniform_strips (m.length - d.0) (numbers m)) m.width)
              (λ q b rest e n go each. right_side d.0 d.1 b rest (omega (arith, n.segment)) go each)
              r rows set.order.next set.order.segment d.2,
        ),
      )
    where
      right_side : (c : ℕ) → c ≤ m.length → (b : Row) (rest : List Row) → b.segment ≡ 1 → GoesOn (shape m) b [] rest → AllByRecursion (Sided (shape m) c (r ∷ rows)) (b ∷ rest) → sum (value_of m) (b ∷ rest) ≤ most plain (uniform_strips (m.length - c) (numbers m)) m.width
      right_side c within b rest e go each =
          omega (
            arith,
            segment_most (r ∷ rows) set c 1 c (m.length - c) (λ q z x. omega (arith, z.placed.inside_along)) (λ q z x. z.right x)
                0 (λ q a more z n g every. absurd (omega (arith, n.segment, every.0.two)))
                b rest go e each,
          )
