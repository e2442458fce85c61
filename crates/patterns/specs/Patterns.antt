-- What the named patterns are, in the words of the rules: first sequences of greatest worth, laid from 0 on without gaps.
use Rattle.std.specs.Prelude.{◌≡◌, ℕ, ◌+◌, ◌-◌, ◌*◌, ◌/◌, ◌<◌, ◌≤◌, List, [], map, replicate}
use Rattle.layout.specs.declared.row.Row.{Row}
use Rattle.layout.specs.Tasks.{Model, WithinLimits}
use Rattle.patterns.specs.declared.Oriented.{Oriented}
use Rattle.patterns.specs.Counting.{Counted}
use Rattle.patterns.specs.Named.{two_staged_pattern, side_by_side, three_staged_pattern}
use Rattle.patterns.specs.Numbers.{number}
use Rattle.patterns.specs.Sequences.{sum, FirstBest}
use Rattle.patterns.specs.Strips.{Strip, by_value, lay}

-- what strips are compared by: their numbers
abbrev pub strip_rank : Oriented → ℕ
strip_rank q = number q

-- what pieces are worth together
abbrev pub pieces_worth : List Oriented → ℕ
pieces_worth ps = sum (λ (p : Oriented). p.value) ps

-- a strip of these pieces that takes the across size of q
abbrev pub strip_with : Oriented → List Oriented → Strip ℕ
strip_with q pieces = record { across = q.across; pieces = pieces; worth = pieces_worth pieces }

-- ---- two-staged general

-- the pieces of the strip of q: numbers that count, with across size at most that of q, whose along sizes add to at most the length
abbrev pub StripOf : Model → Oriented → List Oriented → Type 0
StripOf m q pieces = FirstBest number (λ (p : Oriented). Counted m p × (p.across ≤ q.across)) (λ (p : Oriented). p.along) (λ (p : Oriented). p.value) m.length pieces

-- the rows are the two-staged named pattern
pub record TwoStagedPattern (m : Model) (rows : List Row) : Type 0 where
  -- the strip of each number that counts
  pub pieces : Oriented → List Oriented
  pub each : (q : Oriented) → Counted m q → StripOf m q (pieces q)
  -- one number for each strip: their across sizes add to at most the width, and each is worth what its strip is worth
  pub strips : List Oriented
  pub chosen : FirstBest strip_rank (Counted m) (λ (q : Oriented). q.across) (λ (q : Oriented). pieces_worth (pieces q)) m.width strips
  -- in segment 0, the strips from number 0 on, at x = 0 and from y = 0 on
  pub laid : rows ≡ lay 0 0 0 0 (map (λ (q : Oriented). strip_with q (pieces q)) strips)

-- ---- three-staged homogenous

-- how many pieces of q a segment of length c holds side by side
abbrev pub pieces_in : ℕ → Oriented → ℕ
pieces_in c q = c / q.along

-- what a strip of q is worth in a segment of length c
abbrev pub strip_worth : ℕ → Oriented → ℕ
strip_worth c q = q.value * pieces_in c q

-- the numbers of the strips of a segment of length c: each of at least one piece, their across sizes adding to at most the width
abbrev pub SegmentOf : Model → ℕ → List Oriented → Type 0
SegmentOf m c qs = FirstBest strip_rank (λ (q : Oriented). Counted m q × (1 ≤ pieces_in c q)) (λ (q : Oriented). q.across) (strip_worth c) m.width qs

-- the strips of these numbers
abbrev pub strips_with : ℕ → List Oriented → List (Strip ℕ)
strips_with c qs = map (λ (q : Oriented). strip_with q (replicate (pieces_in c q) q)) qs

-- what the segments of lengths c and l - c are worth together
abbrev pub both_worth : (ℕ → List Oriented) → ℕ → ℕ → ℕ
both_worth segments l c = sum (strip_worth c) (segments c) + sum (strip_worth (l - c)) (segments (l - c))

-- the rows are the three-staged named pattern
pub record ThreeStagedPattern (m : Model) (rows : List Row) : Type 0 where
  -- the segment of each length
  pub segments : ℕ → List Oriented
  pub each : (c : ℕ) → SegmentOf m c (segments c)
  -- the dividing position: none has a greater sum, and every lower one has a smaller
  pub place : ℕ
  pub within : place ≤ m.length
  pub greatest : (c : ℕ) → c ≤ m.length → both_worth segments m.length c ≤ both_worth segments m.length place
  pub lowest : (c : ℕ) → c < place → both_worth segments m.length c < both_worth segments m.length place
  -- the left segment at x = 0, the right one at the dividing position
  pub laid : rows ≡ side_by_side place (strips_with place (segments place)) (strips_with (m.length - place) (segments (m.length - place)))

-- ---- for every task within the limits

-- the computed pattern is the two-staged one, and no other list is
abbrev pub TwoStagedIsNamed : Type 0
TwoStagedIsNamed = (m : Model) → WithinLimits m → TwoStagedPattern m (two_staged_pattern by_value m) × ((rows : List Row) → TwoStagedPattern m rows → rows ≡ two_staged_pattern by_value m)

-- the computed pattern is the three-staged one, and no other list is
abbrev pub ThreeStagedIsNamed : Type 0
ThreeStagedIsNamed = (m : Model) → WithinLimits m → ThreeStagedPattern m (three_staged_pattern by_value m) × ((rows : List Row) → ThreeStagedPattern m rows → rows ≡ three_staged_pattern by_value m)

-- where no number counts, both rules name the empty list
abbrev pub EmptyWithoutNumbers : Type 0
EmptyWithoutNumbers = (m : Model) → WithinLimits m → ((q : Oriented) → Counted m q → ⊥) → (two_staged_pattern by_value m ≡ []) × (three_staged_pattern by_value m ≡ [])
