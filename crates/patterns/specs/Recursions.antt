-- The published recursions for the worth of the named patterns, in whole numbers. The number of pieces of a kind is unlimited in them.
use Rattle.std.specs.Prelude.{◌≡◌, ℕ, suc, ◌+◌, ◌-◌, ◌<◌, ◌≤◌, ◌⊎◌, List, length, slice_index_or, All}
use Rattle.std.specs.List.{ContainsAt as Has}
use Rattle.layout.specs.Tasks.{Model, WithinLimits, worth}
use Rattle.patterns.specs.declared.Oriented.{Oriented}
use Rattle.patterns.specs.Counting.{Counted}
use Rattle.patterns.specs.Named.{two_staged_pattern, three_staged_pattern}
use Rattle.patterns.specs.Numbers.{no_piece}
use Rattle.patterns.specs.Patterns.{pieces_worth, StripOf, strip_worth, SegmentOf, ThreeStagedPattern}
use Rattle.patterns.specs.Sequences.{sum}
use Rattle.patterns.specs.Strips.{by_value}

-- n is the greatest of the terms
abbrev pub Max : (ℕ → Type 0) → ℕ → Type 0
Max Term n = Term n × ((t : ℕ) → Term t → t ≤ n)

-- ---- the two forms of a recursion

-- S (0) = 0, S (y) = max { S (y - 1), w + S (y - b) | an offer of size b and worth w, b ≤ y }
pub record Stacking (Offer : ℕ → ℕ → Type 0) (S : ℕ → ℕ) : Type 0 where
  pub start : S 0 ≡ 0
  pub step : (y : ℕ) → Max (λ t. (t ≡ S y) ⊎ ((b : ℕ) × (w : ℕ) × Offer b w × (b ≤ suc y) × (t ≡ w + S (suc y - b)))) (S (suc y))

-- f (0, x) = 0, f (k, x) = max { f (k - 1, x), v (q (k)) + f (k, x - a (q (k))) | a (q (k)) ≤ x }
-- where q (k) is the number at place k of the list, counted from 1
pub record Admitting (qs : List Oriented) (f : ℕ → ℕ → ℕ) : Type 0 where
  pub start : (x : ℕ) → f 0 x ≡ 0
  pub step : (k x : ℕ) → k < length qs → Max (λ t. (t ≡ f k x) ⊎ (((slice_index_or qs k no_piece).along ≤ x) × (t ≡ (slice_index_or qs k no_piece).value + f (suc k) (x - (slice_index_or qs k no_piece).along)))) (f (suc k) x)

-- ---- two-staged

-- the numbers that count, in an order by across size
pub record ByAcross (m : Model) (qs : List Oriented) : Type 0 where
  pub only : All (Counted m) qs
  pub every : (q : Oriented) → Counted m q → Has qs q
  pub rising : (i j : ℕ) → i < j → j < length qs → (slice_index_or qs i no_piece).across ≤ (slice_index_or qs j no_piece).across

-- k is the last place whose number has the across size of q; places are counted from 1
pub record LastPlace (qs : List Oriented) (q : Oriented) (k : ℕ) : Type 0 where
  pub before : ℕ
  pub is : k ≡ suc before
  pub known : before < length qs
  pub same : (slice_index_or qs before no_piece).across ≡ q.across
  pub last : (i : ℕ) → before < i → i < length qs → q.across < (slice_index_or qs i no_piece).across

-- a number p that the strip of q may hold, with its along size a and its value v
abbrev pub PieceOffer : Model → Oriented → ℕ → ℕ → Type 0
PieceOffer m q a v = (p : Oriented) × Counted m p × (p.across ≤ q.across) × (a ≡ p.along) × (v ≡ p.value)

-- a strip of a number q, with its across size b and its worth w = fq (L)
abbrev pub StripOffer : Model → (Oriented → ℕ → ℕ) → ℕ → ℕ → Type 0
StripOffer m fq b w = (q : Oriented) × Counted m q × (b ≡ q.across) × (w ≡ fq q m.length)

-- the strip of the number at place k, with its across size b and its worth w = f (k, L)
abbrev pub PlaceOffer : Model → List Oriented → (ℕ → ℕ → ℕ) → ℕ → ℕ → Type 0
PlaceOffer m qs f b w = (k : ℕ) × (k < length qs) × (b ≡ (slice_index_or qs k no_piece).across) × (w ≡ f (suc k) m.length)

-- fq keeps to the recursion over the length of a strip alone, and F to that of the stack of these strips
pub record ByLength (m : Model) (fq : Oriented → ℕ → ℕ) (F : ℕ → ℕ) : Type 0 where
  pub strips : (q : Oriented) → Counted m q → Stacking (PieceOffer m q) (fq q)
  pub stack : Stacking (StripOffer m fq) F

-- f keeps to the recursion over the numbers in an order by across size, and F to that of the stack of strips by their places
pub record ByNumber (m : Model) (qs : List Oriented) (f : ℕ → ℕ → ℕ) (F : ℕ → ℕ) : Type 0 where
  pub order : ByAcross m qs
  pub strips : Admitting qs f
  pub stack : Stacking (PlaceOffer m qs f) F

-- Whatever keeps to the recursions gives the worth of the pattern, in either form; there is something that does.
pub record TwoStagedRecursions (m : Model) : Type 0 where
  pub by_length : (fq : Oriented → ℕ → ℕ) (F : ℕ → ℕ) → ByLength m fq F → F m.width ≡ worth m (two_staged_pattern by_value m)
  pub by_number : (qs : List Oriented) (f : ℕ → ℕ → ℕ) (F : ℕ → ℕ) → ByNumber m qs f F → F m.width ≡ worth m (two_staged_pattern by_value m)
  -- the worth of the strip of q is fq (L)
  pub strip : (fq : Oriented → ℕ → ℕ) (F : ℕ → ℕ) → ByLength m fq F → (q : Oriented) → Counted m q → (pieces : List Oriented) → StripOf m q pieces → fq q m.length ≡ pieces_worth pieces
  -- the two forms agree at the last place of each across size
  pub agree : (fq : Oriented → ℕ → ℕ) (F : ℕ → ℕ) → ByLength m fq F → (qs : List Oriented) (f : ℕ → ℕ → ℕ) (H : ℕ → ℕ) → ByNumber m qs f H → (q : Oriented) → Counted m q → (k : ℕ) → LastPlace qs q k → (x : ℕ) → f k x ≡ fq q x
  pub some_by_length : (fq : Oriented → ℕ → ℕ) × (F : ℕ → ℕ) × ByLength m fq F
  pub some_by_number : (qs : List Oriented) × (f : ℕ → ℕ → ℕ) × (F : ℕ → ℕ) × ByNumber m qs f F

-- ---- three-staged

-- a strip of a number q in a segment of length c, with its across size b and its worth w = v (q) × floor (c / a (q)), which is 0 where c is too short
abbrev pub UniformOffer : Model → ℕ → ℕ → ℕ → Type 0
UniformOffer m c b w = (q : Oriented) × Counted m q × (b ≡ q.across) × (w ≡ strip_worth c q)

-- T (c) = G (c, W) + G (L - c, W)
abbrev pub both_sides : Model → (ℕ → ℕ → ℕ) → ℕ → ℕ
both_sides m G c = G c m.width + G (m.length - c) m.width

-- G (c, y) keeps to the recursion of a segment of length c
abbrev pub BySegment : Model → (ℕ → ℕ → ℕ) → Type 0
BySegment m G = (c : ℕ) → c ≤ m.length → Stacking (UniformOffer m c) (G c)

-- Whatever keeps to the recursion: the greatest T (c) is the worth of the pattern, and its dividing position is the lowest c that reaches it;
-- there is something that does.
pub record ThreeStagedRecursions (m : Model) : Type 0 where
  pub greatest : (G : ℕ → ℕ → ℕ) → BySegment m G → Max (λ t. (c : ℕ) × (c ≤ m.length) × (t ≡ both_sides m G c)) (worth m (three_staged_pattern by_value m))
  pub reached : (G : ℕ → ℕ → ℕ) → BySegment m G → (pattern : ThreeStagedPattern m (three_staged_pattern by_value m)) → both_sides m G pattern.place ≡ worth m (three_staged_pattern by_value m)
  pub lowest : (G : ℕ → ℕ → ℕ) → BySegment m G → (pattern : ThreeStagedPattern m (three_staged_pattern by_value m)) → (c : ℕ) → c < pattern.place → both_sides m G c < worth m (three_staged_pattern by_value m)
  -- the worth of a segment of length c is G (c, W)
  pub segment : (G : ℕ → ℕ → ℕ) → BySegment m G → (c : ℕ) → c ≤ m.length → (qs : List Oriented) → SegmentOf m c qs → G c m.width ≡ sum (strip_worth c) qs
  pub some_by_segment : (G : ℕ → ℕ → ℕ) × BySegment m G

-- ---- for every task within the limits

abbrev pub TwoStagedRecursionsHold : Type 0
TwoStagedRecursionsHold = (m : Model) → WithinLimits m → TwoStagedRecursions m

abbrev pub ThreeStagedRecursionsHold : Type 0
ThreeStagedRecursionsHold = (m : Model) → WithinLimits m → ThreeStagedRecursions m
