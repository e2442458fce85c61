-- How each two rows of a list in order stand to one another.
use Rattle.std.proofs.Common.{◌≡◌, ℕ, ◌<◌, ◌≤◌, List, [], ◌∷◌, refl, arith}
use Rattle.std.proofs.lemmas.List.Elements.{All-head, recursion_from_All}
use Rattle.std.specs.List.{AllByRecursion}
use Rattle.layout.specs.declared.row.Row.{Row}
use Rattle.layout.specs.Pieces.{end, top}
use Rattle.layout.specs.Tasks.{Shape, panels}
use Rattle.patterns.specs.Sets.{GoesOn, InOrder}
use Rattle.patterns.specs.Sets.GoesOn.{ends, same, strip, segment}
use Rattle.patterns.proofs.Lists.{Pairs}

-- a stands in an earlier segment, or in a lower strip of the segment, all below b; or before b in its strip
pub data Stand (s : Shape) (a b : Row) : Type 0 where
  aside : a.segment < b.segment → Stand s a b
  below : a.segment ≡ b.segment → a.strip < b.strip → top (panels s) a ≤ b.y → Stand s a b
  before : a.segment ≡ b.segment → a.strip ≡ b.strip → a.y ≡ b.y → end (panels s) a ≤ b.x → Stand s a b

module _ (s : Shape) where
  -- a row of an earlier segment
  from_aside : (a p : Row) (earlier rows : List Row) → a.segment < p.segment → GoesOn s p earlier rows → AllByRecursion (Stand s a) rows
  from_aside a p earlier [] lt ends = tt
  from_aside a p earlier (r ∷ rows) lt (same t g) = (aside (omega (arith, t.segment)), from_aside a r (p ∷ earlier) rows (omega (arith, t.segment)) g)
  from_aside a p earlier (r ∷ rows) lt (strip t g) = (aside (omega (arith, t.segment)), from_aside a r [] rows (omega (arith, t.segment)) g)
  from_aside a p earlier (r ∷ rows) lt (segment t g) = (aside (omega (arith, t.segment)), from_aside a r [] rows (omega (arith, t.segment)) g)

  -- a row of a lower strip
  from_below : (a p : Row) (earlier rows : List Row) → a.segment ≡ p.segment → a.strip < p.strip → top (panels s) a ≤ p.y → GoesOn s p earlier rows → AllByRecursion (Stand s a) rows
  from_below a p earlier [] e lt low ends = tt
  from_below a p earlier (r ∷ rows) e lt low (same t g) =
      (below (omega (arith, t.segment)) (omega (arith, t.strip)) (omega (arith, t.level)), from_below a r (p ∷ earlier) rows (omega (arith, t.segment)) (omega (arith, t.strip)) (omega (arith, t.level)) g)
  from_below a p earlier (r ∷ rows) e lt low (strip t g) =
      (below (omega (arith, t.segment)) (omega (arith, t.strip)) (omega (arith, All-head (λ (q : Row). top (panels s) q ≤ r.y) p earlier t.above)), from_below a r [] rows (omega (arith, t.segment)) (omega (arith, t.strip)) (omega (arith, All-head (λ (q : Row). top (panels s) q ≤ r.y) p earlier t.above)) g)
  from_below a p earlier (r ∷ rows) e lt low (segment t g) = (aside (omega (arith, t.segment)), from_aside a r [] rows (omega (arith, t.segment)) g)

  -- a row of the strip at hand: what is above every piece of the strip is above it
  from_strip : (a p : Row) (earlier rows : List Row) → a.segment ≡ p.segment → a.strip ≡ p.strip → a.y ≡ p.y → end (panels s) a ≤ end (panels s) p → ((y : ℕ) → AllByRecursion (λ (q : Row). top (panels s) q ≤ y) (p ∷ earlier) → top (panels s) a ≤ y) → GoesOn s p earlier rows → AllByRecursion (Stand s a) rows
  from_strip a p earlier [] e f h x tops ends = tt
  from_strip a p earlier (r ∷ rows) e f h x tops (same t g) = (
    before (omega (arith, t.segment)) (omega (arith, t.strip)) (omega (arith, t.level)) (omega (arith, t.beyond)),
    from_strip a r (p ∷ earlier) rows (omega (arith, t.segment)) (omega (arith, t.strip)) (omega (arith, t.level)) (omega (arith, t.beyond)) (λ y all. tops y all.1) g,
  )
  from_strip a p earlier (r ∷ rows) e f h x tops (strip t g) =
      (below (omega (arith, t.segment)) (omega (arith, t.strip)) (tops r.y (recursion_from_All (λ (q : Row). top (panels s) q ≤ r.y) (p ∷ earlier) t.above)), from_below a r [] rows (omega (arith, t.segment)) (omega (arith, t.strip)) (tops r.y (recursion_from_All (λ (q : Row). top (panels s) q ≤ r.y) (p ∷ earlier) t.above)) g)
  from_strip a p earlier (r ∷ rows) e f h x tops (segment t g) = (aside (omega (arith, t.segment)), from_aside a r [] rows (omega (arith, t.segment)) g)

  own : (p : Row) (earlier rows : List Row) → GoesOn s p earlier rows → AllByRecursion (Stand s p) rows
  own p earlier rows g = from_strip p p earlier rows refl refl refl (omega arith) (λ y all. all.0) g

  pairs_on : (p : Row) (earlier rows : List Row) → GoesOn s p earlier rows → Pairs (Stand s) (p ∷ rows)
  pairs_on p earlier [] ends = (tt, tt)
  pairs_on p earlier (r ∷ rows) (same t g) = (own p earlier (r ∷ rows) (same t g), pairs_on r (p ∷ earlier) rows g)
  pairs_on p earlier (r ∷ rows) (strip t g) = (own p earlier (r ∷ rows) (strip t g), pairs_on r [] rows g)
  pairs_on p earlier (r ∷ rows) (segment t g) = (own p earlier (r ∷ rows) (segment t g), pairs_on r [] rows g)

  pub pairs : (rows : List Row) → InOrder s rows → Pairs (Stand s) rows
  pairs [] o = tt
  pairs (r ∷ rows) o = pairs_on r [] rows o.next
