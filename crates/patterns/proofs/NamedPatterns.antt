-- The named patterns in the words of the rules: they are so, and no other list is.
use Rattle.std.proofs.Common.{◌≡◌, ℕ, ◌-◌, ◌<◌, ◌≤◌, leb, List, [], ◌∷◌, map, replicate, sym, refl, ap, ◌∙◌, subst, inl, inr, mul_comm, le-div_iff_mul-le, All, arith}
use Rattle.std.proofs.lemmas.Simd.{map-map}
use Rattle.std.proofs.lemmas.List.Elements.{All-head, recursion_from_All}
use Rattle.std.proofs.lemmas.Bool.{ltb-true, ltb-false, cases_order}
use Rattle.layout.specs.declared.row.Row.{Row}
use Rattle.layout.specs.Tasks.{Model, WithinLimits}
use Rattle.choosing.specs.Choice.{First, total_worth, first}
use Rattle.choosing.specs.Plain.{plain}
use Rattle.choosing.proofs.Choosing.{first_is_first, most_is_total}
use Rattle.choosing.specs.Numbers.{plain_laws}
use Rattle.patterns.specs.declared.Oriented.{Oriented}
use Rattle.patterns.specs.Counting.{Counted}
use Rattle.patterns.specs.Named.{preferred, two_staged_pattern, segment_at, divided, division, side_by_side, three_staged_pattern}
use Rattle.patterns.specs.Numbers.{number, numbers, no_piece}
use Rattle.patterns.specs.Patterns.{strip_rank, pieces_worth, strip_with, StripOf, TwoStagedPattern, pieces_in, strip_worth, SegmentOf, strips_with, both_worth, ThreeStagedPattern, TwoStagedIsNamed, ThreeStagedIsNamed, EmptyWithoutNumbers}
use Rattle.patterns.specs.Sequences.{sum, FirstBest}
use Rattle.patterns.specs.Strips.{Strip, by_value, by_along, by_across, no_strip, at, no_wider, no_longer, general_strip, uniform_strip, lay}
use Rattle.patterns.proofs.Lists.{all_each, Pairs, all_in}
use Rattle.patterns.proofs.Numbered.{Lower, numbers_counted, counted_in, numbers_lower, pairs_kept_by}
use Rattle.patterns.proofs.Candidates.{all_sound, sizeable, all_preferred, in_preferred, in_no_wider, in_no_longer, all_no_wider, all_no_longer, strip_pieces, general_strips, uniform_strips, pieces_fine, uniform_fine, times_is}
use Rattle.patterns.proofs.Worths.{all_sizeable, two_fine}
use Rattle.patterns.proofs.Chosen.{taken_at, sum_replicate, general_ready}
use Rattle.patterns.proofs.Dividing.{lowest_best}
use Rattle.patterns.proofs.Firsts.{map_same, at_map, known_places, first_best, first_best_by, first_best_unique}

-- strips are preferred in the order of their rank
preferred_ranked : (os : List Oriented) → Pairs Lower os → Pairs (λ (a b : Oriented). strip_rank a < strip_rank b) (preferred os)
preferred_ranked os ok = ok

module _ (m : Model) (ok : WithinLimits m) where
  -- ---- two-staged

  -- the pieces of the strip of q
  abbrev pub strip_pieces_of : Oriented → List Oriented
  strip_pieces_of q = (general_strip by_value m.length (numbers m) q).pieces

  pub strip_of : (q : Oriented) → StripOf m q (strip_pieces_of q)
  strip_of q =
      let cands = strip_pieces (numbers m) q.across in
      first_best number (by_along by_value) (no_wider q.across (numbers m)) (pairs_kept_by Lower (λ (o : Oriented). leb o.across q.across) (numbers m) (numbers_lower m))
      (λ (p : Oriented). Counted m p × (p.across ≤ q.across)) m.length (first plain cands m.length).order
      (λ p u. in_no_wider q.across (counted_in m p u.0) u.1)
      (all_no_wider (Counted m) q.across (numbers m) (numbers_counted m))
      (first_is_first plain_laws cands (all_sound cands (pieces_fine (numbers m) (all_sizeable m ok) q.across)) m.length)

  pub strip_unique : (q : Oriented) (pieces : List Oriented) → StripOf m q pieces → pieces ≡ strip_pieces_of q
  strip_unique q pieces strip =
      first_best_unique number (λ (p : Oriented). Counted m p × (p.across ≤ q.across)) (λ (p : Oriented). p.along) (λ (p : Oriented). p.value) (λ (p : Oriented). p.value) (λ p u. refl) m.length
      pieces (strip_pieces_of q) strip (strip_of q)

  -- the strip of q as a candidate, and the numbers of the chosen strips
  abbrev pub general : Oriented → Strip ℕ
  general q = general_strip by_value m.length (numbers m) q

  abbrev chosen_strips : List Oriented
  chosen_strips = at no_piece (preferred (numbers m)) (first plain (general_strips m.length (numbers m)) m.width).order

  -- a strip is worth what its pieces are worth
  pub general_worth : (q : Oriented) → Counted m q → (general q).worth ≡ pieces_worth (strip_pieces_of q)
  general_worth q c = sym (general_ready m ok q (counted_in m q c)).worth_is

  first_strips : First plain (map (λ (q : Oriented). by_across (general q)) (preferred (numbers m))) m.width (first plain (general_strips m.length (numbers m)) m.width).order
  first_strips =
      let cands = general_strips m.length (numbers m) in
      subst (λ cs. First plain cs m.width (first plain cands m.width).order) (map-map by_across general (preferred (numbers m))) (first_is_first plain_laws cands (all_sound cands (two_fine m ok)) m.width)

  strips_chosen : FirstBest strip_rank (Counted m) (λ (q : Oriented). q.across) (λ (q : Oriented). pieces_worth (strip_pieces_of q)) m.width chosen_strips
  strips_chosen =
      first_best_by strip_rank (Counted m) (λ (q : Oriented). q.across) (λ (q : Oriented). (general q).worth) (λ (q : Oriented). pieces_worth (strip_pieces_of q)) general_worth m.width chosen_strips
      (first_best strip_rank (λ (q : Oriented). by_across (general q)) (preferred (numbers m)) (preferred_ranked (numbers m) (numbers_lower m))
      (Counted m) m.width (first plain (general_strips m.length (numbers m)) m.width).order
      (λ p c. in_preferred (counted_in m p c)) (all_preferred (Counted m) (numbers m) (numbers_counted m)) first_strips)

  two_laid : two_staged_pattern by_value m ≡ lay 0 0 0 0 (map (λ (q : Oriented). strip_with q (strip_pieces_of q)) chosen_strips)
  two_laid =
      ap (lay 0 0 0 0)
      (at_map general no_piece (no_strip plain) (preferred (numbers m)) (first plain (general_strips m.length (numbers m)) m.width).order (known_places (λ (q : Oriented). by_across (general q)) (preferred (numbers m)) (first plain (general_strips m.length (numbers m)) m.width).order first_strips.feasible.known)
      ∙ map_same general (λ (q : Oriented). strip_with q (strip_pieces_of q)) chosen_strips (all_each (λ q c. ap (λ w. record { across = q.across; pieces = strip_pieces_of q; worth = w }) (general_worth q c)) chosen_strips (recursion_from_All (Counted m) chosen_strips strips_chosen.fits.usable)))

  pub two_pattern : TwoStagedPattern m (two_staged_pattern by_value m)
  two_pattern = record { pieces = strip_pieces_of; each = λ q c. strip_of q; strips = chosen_strips; chosen = strips_chosen; laid = two_laid }

  -- two such patterns have the same strips
  pub two_unique : (rows : List Row) → TwoStagedPattern m rows → rows ≡ two_staged_pattern by_value m
  two_unique rows t =
      t.laid
      ∙ ap (lay 0 0 0 0)
      (map_same (λ (q : Oriented). strip_with q (t.pieces q)) (λ (q : Oriented). strip_with q (strip_pieces_of q)) t.strips (all_each (λ q c. ap (strip_with q) (same q c)) t.strips (recursion_from_All (Counted m) t.strips t.chosen.fits.usable))
      ∙ ap (map (λ (q : Oriented). strip_with q (strip_pieces_of q))) strips_same)
      ∙ sym two_laid
    where
      same : (q : Oriented) → Counted m q → t.pieces q ≡ strip_pieces_of q
      same q c = strip_unique q (t.pieces q) (t.each q c)

      strips_same : t.strips ≡ chosen_strips
      strips_same =
          first_best_unique strip_rank (Counted m) (λ (q : Oriented). q.across) (λ (q : Oriented). pieces_worth (t.pieces q)) (λ (q : Oriented). pieces_worth (strip_pieces_of q)) (λ q c. ap pieces_worth (same q c)) m.width
          t.strips chosen_strips t.chosen strips_chosen

  -- ---- three-staged

  -- the numbers whose strips a segment of length c can have, and those that are chosen
  abbrev pub usable_in : ℕ → List Oriented
  usable_in c = no_longer c (preferred (numbers m))

  abbrev pub segment_numbers : ℕ → List Oriented
  segment_numbers c = at no_piece (usable_in c) (first plain (uniform_strips c (numbers m)) m.width).order

  -- there is a strip of q exactly where q is no longer than the segment
  pub some_pieces : (c : ℕ) (q : Oriented) → Counted m q → q.along ≤ c → 1 ≤ pieces_in c q
  some_pieces c q counted le = (le-div_iff_mul-le {k = q.along} {x = 1} {y = c} (omega (arith, (sizeable m ok q counted).along_least))).1 (omega arith)

  pub no_longer_than : (c : ℕ) (q : Oriented) → Counted m q → 1 ≤ pieces_in c q → q.along ≤ c
  no_longer_than c q counted le = omega (arith, (le-div_iff_mul-le {k = q.along} {x = 1} {y = c} (omega (arith, (sizeable m ok q counted).along_least))).0 le)

  -- a strip of q is worth as many times the value of q as it has pieces
  pub uniform_worth : (c : ℕ) (q : Oriented) → (uniform_strip by_value c q).worth ≡ strip_worth c q
  uniform_worth c q = times_is (pieces_in c q) q.value ∙ mul_comm (pieces_in c q) q.value

  uniform_is : (c : ℕ) (q : Oriented) → uniform_strip by_value c q ≡ strip_with q (replicate (pieces_in c q) q)
  uniform_is c q = ap (λ w. record { across = q.across; pieces = replicate (pieces_in c q) q; worth = w }) (times_is (pieces_in c q) q.value ∙ sym (sum_replicate (λ (p : Oriented). p.value) q (pieces_in c q)))

  first_segment : (c : ℕ) → First plain (map (λ (q : Oriented). by_across (uniform_strip by_value c q)) (usable_in c)) m.width (first plain (uniform_strips c (numbers m)) m.width).order
  first_segment c =
      let cands = uniform_strips c (numbers m) in
      subst (λ cs. First plain cs m.width (first plain cands m.width).order) (map-map by_across (uniform_strip by_value c) (usable_in c)) (first_is_first plain_laws cands (all_sound cands (uniform_fine c (numbers m) (all_sizeable m ok))) m.width)

  pub segment_of : (c : ℕ) → SegmentOf m c (segment_numbers c)
  segment_of c =
      first_best_by strip_rank (λ (q : Oriented). Counted m q × (1 ≤ pieces_in c q)) (λ (q : Oriented). q.across) (λ (q : Oriented). (uniform_strip by_value c q).worth) (strip_worth c) (λ q u. uniform_worth c q) m.width (segment_numbers c)
      (first_best strip_rank (λ (q : Oriented). by_across (uniform_strip by_value c q)) (usable_in c) (pairs_kept_by (λ (a b : Oriented). strip_rank a < strip_rank b) (λ (o : Oriented). leb o.along c) (preferred (numbers m)) (preferred_ranked (numbers m) (numbers_lower m)))
      (λ (q : Oriented). Counted m q × (1 ≤ pieces_in c q)) m.width (first plain (uniform_strips c (numbers m)) m.width).order
      (λ p u. in_no_longer c (in_preferred (counted_in m p u.0)) (no_longer_than c p u.0 u.1))
      (all_each (λ q u. (u.0, some_pieces c q u.0 u.1)) (usable_in c) (all_no_longer (Counted m) c (preferred (numbers m)) (all_preferred (Counted m) (numbers m) (numbers_counted m))))
      (first_segment c))

  pub segment_unique : (c : ℕ) (qs : List Oriented) → SegmentOf m c qs → qs ≡ segment_numbers c
  segment_unique c qs segment =
      first_best_unique strip_rank (λ (q : Oriented). Counted m q × (1 ≤ pieces_in c q)) (λ (q : Oriented). q.across) (strip_worth c) (strip_worth c) (λ q u. refl) m.width
      qs (segment_numbers c) segment (segment_of c)

  -- the segment of length c is worth what its strips are worth
  pub segment_worth : (c : ℕ) → sum (strip_worth c) (segment_numbers c) ≡ (segment_at by_value m c).worth
  segment_worth c =
      let cands = uniform_strips c (numbers m) in
      let ks = (first plain cands m.width).order in
      let t = taken_at (λ (q : Oriented). by_across (uniform_strip by_value c q)) no_piece (λ (q : Oriented). Unit {0}) (usable_in c) ks (all_in (λ (q : Oriented). Unit {0}) (usable_in c) (λ q i. tt)) (first_segment c).feasible.known in
      worths (segment_numbers c) ∙ t.worth_is ∙ ap (λ cs. total_worth plain cs ks) (sym (map-map by_across (uniform_strip by_value c) (usable_in c))) ∙ sym (most_is_total plain_laws cands (all_sound cands (uniform_fine c (numbers m) (all_sizeable m ok))) m.width)
    where
      worths : (qs : List Oriented) → sum (strip_worth c) qs ≡ sum (λ (q : Oriented). (uniform_strip by_value c q).worth) qs
      worths [] = refl
      worths (q ∷ qs) = omega (arith, uniform_worth c q, worths qs)

  segment_laid : (c : ℕ) → (segment_at by_value m c).strips ≡ strips_with c (segment_numbers c)
  segment_laid c =
      at_map (uniform_strip by_value c) no_piece (no_strip plain) (usable_in c) (first plain (uniform_strips c (numbers m)) m.width).order (known_places (λ (q : Oriented). by_across (uniform_strip by_value c q)) (usable_in c) (first plain (uniform_strips c (numbers m)) m.width).order (first_segment c).feasible.known)
      ∙ map_same (uniform_strip by_value c) (λ (q : Oriented). strip_with q (replicate (pieces_in c q) q)) (segment_numbers c) (all_in (λ (q : Oriented). uniform_strip by_value c q ≡ strip_with q (replicate (pieces_in c q) q)) (segment_numbers c) (λ q i. uniform_is c q))

  both_is : (c : ℕ) → both_worth segment_numbers m.length c ≡ (divided by_value m c).worth
  both_is c = omega (arith, segment_worth c, segment_worth (m.length - c))

  pub three_pattern : ThreeStagedPattern m (three_staged_pattern by_value m)
  three_pattern =
      let d = lowest_best by_value plain_laws m m.length in
      let c = (division by_value m m.length).place in
      let worth_is : (division by_value m m.length).worth ≡ (divided by_value m c).worth = ap (λ z. z.worth) d.is in
      record {
        segments = segment_numbers;
        each = segment_of;
        place = c;
        within = d.reached;
        greatest = λ b h. omega (arith, both_is b, both_is c, worth_is, ltb-false (division by_value m m.length).worth (divided by_value m b).worth (d.greatest b h));
        lowest = λ b h. omega (arith, both_is b, both_is c, worth_is, ltb-true (divided by_value m b).worth (division by_value m m.length).worth (d.lowest b h));
        laid = ap (λ (left : List (Strip ℕ)). side_by_side c left (segment_at by_value m (m.length - c)).strips) (segment_laid c) ∙ ap (side_by_side c (strips_with c (segment_numbers c))) (segment_laid (m.length - c));
      }

  -- two such patterns have the same segments and the same dividing position
  module _ (rows : List Row) (t : ThreeStagedPattern m rows) where
    both_same : (c : ℕ) → both_worth t.segments m.length c ≡ both_worth segment_numbers m.length c
    both_same c = omega (arith, ap (sum (strip_worth c)) (segment_unique c (t.segments c) (t.each c)), ap (sum (strip_worth (m.length - c))) (segment_unique (m.length - c) (t.segments (m.length - c)) (t.each (m.length - c))))

    pub place_same : t.place ≡ (division by_value m m.length).place
    unfolding three_pattern
    place_same =
        let mine = three_pattern in
        elim (cases_order t.place three_pattern.place) [
          | inl e ↦ e
          | inr (inl lt) ↦ absurd (omega (arith, mine.lowest t.place lt, t.greatest mine.place mine.within, both_same t.place, both_same mine.place))
          | inr (inr gt) ↦ absurd (omega (arith, t.lowest mine.place gt, mine.greatest t.place t.within, both_same t.place, both_same mine.place))
        ]

    pub three_unique : rows ≡ three_staged_pattern by_value m
    unfolding three_pattern
    three_unique =
        let c = t.place in
        t.laid
        ∙ ap (λ (left : List Oriented). side_by_side c (strips_with c left) (strips_with (m.length - c) (t.segments (m.length - c)))) (segment_unique c (t.segments c) (t.each c))
        ∙ ap (λ (right : List Oriented). side_by_side c (strips_with c (segment_numbers c)) (strips_with (m.length - c) right)) (segment_unique (m.length - c) (t.segments (m.length - c)) (t.each (m.length - c)))
        ∙ ap (λ d. side_by_side d (strips_with d (segment_numbers d)) (strips_with (m.length - d) (segment_numbers (m.length - d)))) place_same
        ∙ sym three_pattern.laid

-- ---- where nothing counts

none_usable : (P : Oriented → Type 0) → ((q : Oriented) → P q → ⊥) → (qs : List Oriented) → All P qs → qs ≡ []
none_usable P never [] ok = refl
none_usable P never (q ∷ qs) ok = absurd (never q (All-head P q qs ok))

pub empty_without_numbers : EmptyWithoutNumbers
empty_without_numbers m ok none =
    let two = two_pattern m ok in
    let three = three_pattern m ok in
    let c = three.place in
    let no_strips : (b : ℕ) → three.segments b ≡ [] = λ b. none_usable (λ (q : Oriented). Counted m q × (1 ≤ pieces_in b q)) (λ q u. none q u.0) (three.segments b) (three.each b).fits.usable in (
      two.laid ∙ ap (λ qs. lay 0 0 0 0 (map (λ (q : Oriented). strip_with q (two.pieces q)) qs)) (none_usable (Counted m) none two.strips two.chosen.fits.usable),
      three.laid ∙ ap (λ qs. side_by_side c (strips_with c qs) (strips_with (m.length - c) (three.segments (m.length - c)))) (no_strips c) ∙ ap (λ qs. side_by_side c [] (strips_with (m.length - c) qs)) (no_strips (m.length - c)),
    )

pub two_staged_is_named_lem : TwoStagedIsNamed
two_staged_is_named_lem m ok = (two_pattern m ok, two_unique m ok)

pub three_staged_is_named_lem : ThreeStagedIsNamed
three_staged_is_named_lem m ok = (three_pattern m ok, three_unique m ok)
