-- A pattern of either set has at most 4,096 rows, and no strip above number 63.
use Rattle.std.proofs.Common.{◌≡◌, ℕ, suc, ◌+◌, ◌-◌, ◌*◌, ◌/◌, ◌≤◌, List, [], ◌∷◌, length, mul-le-mul_right, suc-mul, arith}
use Rattle.std.proofs.lemmas.List.Elements.{All-head, recursion_from_All}
use Rattle.std.specs.List.{AllByRecursion}
use Rattle.layout.specs.declared.row.Row.{Row}
use Rattle.layout.specs.Pieces.{end, top}
use Rattle.layout.specs.Tasks.{Shape, panels}
use Rattle.rules.specs.Rules.{Placed}
use Rattle.patterns.specs.Sets.{NextSegment, GoesOn, InOrder, TwoStagedSet, ThreeStagedSet}
use Rattle.patterns.specs.Sets.GoesOn.{ends, same, strip, segment}
use Rattle.patterns.specs.Sequences.{sum}
use Rattle.patterns.proofs.Lists.{all_both, sum_one}
use Rattle.patterns.proofs.Sizes.{along_of, across_of}
use Rattle.patterns.proofs.Runs.{Run, run_one, segment_bound}
use Rattle.patterns.proofs.Sides.{Sided, sides}

one_more : (k n m : ℕ) → suc n ≤ m → k + n * k ≤ m * k
one_more k n m h = omega (arith, suc-mul n k, mul-le-mul_right k h)

module _ (s : Shape) (long : s.length ≤ 3200) (wide : s.width ≤ 3200) (sized : (r : Row) → Placed s r → (50 ≤ along_of s r) × (50 ≤ across_of s r)) where
  -- a piece takes at least 50 along
  long_enough : (rows : List Row) → AllByRecursion (Placed s) rows → 50 * sum (λ (r : Row). 1) rows ≤ sum (along_of s) rows
  long_enough [] ok = omega arith
  long_enough (r ∷ rows) ok = omega (arith, long_enough rows ok.1, sized r ok.0)

  -- what a segment from lo to hi holds, if a strip there has room for k pieces
  module _ (g lo hi k : ℕ) (few : (n : ℕ) → lo + 50 * n ≤ hi → n ≤ k)
      (Each : Row → Type 0) (placed : (r : Row) → Each r → Placed s r) (left : (r : Row) → Each r → r.segment ≡ g → lo ≤ r.x) (right : (r : Row) → Each r → r.segment ≡ g → end (panels s) r ≤ hi)
      (aside : ℕ) (next : (q r : Row) (rest : List Row) → q.segment ≡ g → NextSegment q r → GoesOn s r [] rest → AllByRecursion Each (r ∷ rest) → sum (λ (a : Row). 1) (r ∷ rest) ≤ aside) where
    strips_left : ℕ → ℕ
    strips_left y = (3200 - y) / 50 * k

    step : (p : Row) (earlier : List Row) → Run s lo p earlier → p.segment ≡ g → AllByRecursion Each (p ∷ earlier) → (t : ℕ) → t ≤ s.width → AllByRecursion (λ (q : Row). top (panels s) q ≤ t) (p ∷ earlier) → sum (λ (r : Row). 1) (p ∷ earlier) + strips_left t ≤ strips_left p.y
    unfolding strips_left
    step p earlier run e ok t h tops =
        omega (
          arith,
          few (sum (λ (r : Row). 1) (p ∷ earlier)) (omega (arith, run.room, right p ok.0 e, long_enough (p ∷ earlier) run.placed)),
          one_more k ((3200 - t) / 50) ((3200 - p.y) / 50) (omega (arith, tops.0, sized p run.placed.0)),
        )

    pub segment_count : (p : Row) (rows : List Row) → GoesOn s p [] rows → p.segment ≡ g → Each p → AllByRecursion Each rows → sum (λ (r : Row). 1) (p ∷ rows) ≤ 64 * k + aside
    unfolding strips_left
    segment_count p rows go e here each =
        let b = segment_bound s g lo Each placed left (λ (r : Row). 1) strips_left aside step next p [] rows go (run_one (placed p here) (left p here e)) e (here, tt) each in
        let fewer : (3200 - p.y) / 50 ≤ 64 = omega arith in
        omega (arith, mul-le-mul_right k fewer)

  -- ---- the number of strips
  strips_on : (p : Row) (earlier rows : List Row) → GoesOn s p earlier rows → Placed s p → 50 * p.strip ≤ p.y → AllByRecursion (Placed s) rows → AllByRecursion (λ (r : Row). 50 * r.strip ≤ r.y) rows
  strips_on p earlier [] ends placed low each = tt
  strips_on p earlier (r ∷ rows) (same t g) placed low each =
      let h : 50 * r.strip ≤ r.y = omega (arith, t.strip, t.level) in
      (h, strips_on r (p ∷ earlier) rows g each.0 h each.1)
  strips_on p earlier (r ∷ rows) (strip t g) placed low each =
      let h : 50 * r.strip ≤ r.y = omega (arith, t.strip, All-head (λ (q : Row). top (panels s) q ≤ r.y) p earlier t.above, sized p placed) in
      (h, strips_on r [] rows g each.0 h each.1)
  strips_on p earlier (r ∷ rows) (segment t g) placed low each =
      let h : 50 * r.strip ≤ r.y = omega (arith, t.strip) in
      (h, strips_on r [] rows g each.0 h each.1)

  pub strip_numbers : (rows : List Row) → AllByRecursion (Placed s) rows → InOrder s rows → AllByRecursion (λ (r : Row). r.strip ≤ 63) rows
  strip_numbers [] ok o = tt
  strip_numbers (r ∷ rows) ok o =
      (omega (arith, o.strip), low rows (strips_on r [] rows o.next ok.0 (omega (arith, o.strip)) ok.1) ok.1)
    where
      low : (rs : List Row) → AllByRecursion (λ (b : Row). 50 * b.strip ≤ b.y) rs → AllByRecursion (Placed s) rs → AllByRecursion (λ (b : Row). b.strip ≤ 63) rs
      low [] a b = tt
      low (q ∷ rs) a b = (omega (arith, a.0, b.0.inside_across, sized q b.0), low rs a.1 b.1)

  pub two_staged_few : (rows : List Row) → TwoStagedSet s rows → length rows ≤ 4096
  two_staged_few [] set = omega arith
  two_staged_few (r ∷ rows) set =
      let placed = recursion_from_All (Placed s) (r ∷ rows) set.placed in
      let one = recursion_from_All (λ (b : Row). b.segment ≡ 0) (r ∷ rows) set.one in
      omega (
        arith,
        sum_one (r ∷ rows),
        segment_count 0 0 3200 64 (λ n h. omega arith) (λ (b : Row). Placed s b × (b.segment ≡ 0)) (λ b h. h.0) (λ b h e. omega arith) (λ b h e. omega (arith, h.0.inside_along))
            0 (λ q b rest e n g all. absurd (omega (arith, n.segment, all.0.1)))
            r rows set.order.next one.0 (placed.0, one.0) (all_both (Placed s) (λ (b : Row). b.segment ≡ 0) rows placed.1 one.1),
      )

  pub three_staged_few : (rows : List Row) → ThreeStagedSet s rows → length rows ≤ 4096
  three_staged_few [] set = omega arith
  three_staged_few (r ∷ rows) set =
      let d = sides s (r ∷ rows) set in
      omega (
        arith,
        sum_one (r ∷ rows),
        set.order.segment,
        d.1,
        segment_count 0 0 d.0 (d.0 / 50) (λ n h. omega arith) (Sided s d.0 (r ∷ rows)) (λ b h. h.placed) (λ b h e. omega arith) (λ b h e. h.left e)
            (64 * ((3200 - d.0) / 50))
            (λ q b rest e n g all. right_side d.0 b rest (omega (arith, n.segment)) g all.0 all.1)
            r rows set.order.next set.order.segment d.2.0 d.2.1,
      )
    where
      right_side : (c : ℕ) (b : Row) (rest : List Row) → b.segment ≡ 1 → GoesOn s b [] rest → Sided s c (r ∷ rows) b → AllByRecursion (Sided s c (r ∷ rows)) rest → sum (λ (a : Row). 1) (b ∷ rest) ≤ 64 * ((3200 - c) / 50)
      right_side c b rest e g one each =
          omega (
            arith,
            segment_count 1 c 3200 ((3200 - c) / 50) (λ n h. omega arith) (Sided s c (r ∷ rows)) (λ q h. h.placed) (λ q h z. h.right z) (λ q h z. omega (arith, h.placed.inside_along))
                0 (λ q a more z n go all. absurd (omega (arith, n.segment, all.0.two)))
                b rest g e one each,
          )
