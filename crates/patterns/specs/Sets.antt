-- The two named sets of patterns: two-staged general and three-staged homogenous. Gaps are allowed everywhere.
use Rattle.std.specs.Prelude.{◌≡◌, suc, ◌≤◌, List, [], ◌∷◌, All}
use Rattle.layout.specs.declared.row.Row.{Row}
use Rattle.layout.specs.Pieces.{end, top}
use Rattle.layout.specs.Tasks.{Shape, panels}
use Rattle.rules.specs.Rules.{Placed}

-- ---- the order of rows, which both sets ask

-- the row r goes on in the strip of the row p right before it: it has the same y, and begins at or beyond the end of p
pub record SameStrip (s : Shape) (p r : Row) : Type 0 where
  pub segment : r.segment ≡ p.segment
  pub strip : r.strip ≡ p.strip
  pub level : r.y ≡ p.y
  pub beyond : end (panels s) p ≤ r.x

-- the row r begins the next strip of the segment, at or above the top of every piece of the strip below, which holds p and, before it, the rows `earlier`
pub record NextStrip (s : Shape) (p : Row) (earlier : List Row) (r : Row) : Type 0 where
  pub segment : r.segment ≡ p.segment
  pub strip : r.strip ≡ suc p.strip
  pub above : All (λ (q : Row). top (panels s) q ≤ r.y) (p ∷ earlier)

-- the row r begins the next segment, with strip 0
pub record NextSegment (p r : Row) : Type 0 where
  pub segment : r.segment ≡ suc p.segment
  pub strip : r.strip ≡ 0

-- The rows `rows` go on after the row p. Of the strip that p stands in, `earlier` has the rows before p, the last one first: with p these are all
-- the rows of the strip by the time that the next one begins.
pub data GoesOn (s : Shape) : Row → List Row → List Row → Type 0 where
  ends : {p : Row} {earlier : List Row} → GoesOn s p earlier []
  same : {p r : Row} {earlier rows : List Row} → SameStrip s p r → GoesOn s r (p ∷ earlier) rows → GoesOn s p earlier (r ∷ rows)
  strip : {p r : Row} {earlier rows : List Row} → NextStrip s p earlier r → GoesOn s r [] rows → GoesOn s p earlier (r ∷ rows)
  segment : {p r : Row} {earlier rows : List Row} → NextSegment p r → GoesOn s r [] rows → GoesOn s p earlier (r ∷ rows)

-- the first row has segment 0 and strip 0, and the others go on after it
pub record Starts (s : Shape) (r : Row) (rows : List Row) : Type 0 where
  pub segment : r.segment ≡ 0
  pub strip : r.strip ≡ 0
  pub next : GoesOn s r [] rows

-- the rows stand in order, if there are any
abbrev pub InOrder : Shape → List Row → Type 0
InOrder s [] = Unit {0}
InOrder s (r ∷ rows) = Starts s r rows

-- ---- two-staged general

-- rows that are placed and in order, with only segment 0
pub record TwoStagedSet (s : Shape) (rows : List Row) : Type 0 where
  pub placed : All (Placed s) rows
  pub order : InOrder s rows
  pub one : All (λ (r : Row). r.segment ≡ 0) rows

-- ---- three-staged homogenous

-- R holds of each two rows
abbrev pub EachTwo : (Row → Row → Type 0) → List Row → Type 0
EachTwo R rows = All (λ (q : Row). All (R q) rows) rows

-- a piece of segment 1 does not begin before the end of a piece of segment 0
abbrev pub Beside : Shape → Row → Row → Type 0
Beside s q r = q.segment ≡ 0 → r.segment ≡ 1 → end (panels s) q ≤ r.x

-- rows of one strip have the same kind and the same turned
abbrev pub Alike : Row → Row → Type 0
Alike q r = q.segment ≡ r.segment → q.strip ≡ r.strip → (q.kind ≡ r.kind) × (q.turned ≡ r.turned)

-- rows that are placed and in order, with no segment above 1, segment 1 beyond segment 0, and strips of one kind and turn
pub record ThreeStagedSet (s : Shape) (rows : List Row) : Type 0 where
  pub placed : All (Placed s) rows
  pub order : InOrder s rows
  pub two : All (λ (r : Row). r.segment ≤ 1) rows
  pub beside : EachTwo (Beside s) rows
  pub alike : EachTwo Alike rows
