-- The published recursions give the worth of the named patterns.
use Rattle.std.proofs.Common.{◌≡◌, ℕ, zero, suc, ◌-◌, ◌*◌, ◌/◌, ◌<◌, ◌≤◌, ◌⊎◌, List, [], ◌∷◌, map, length, get_or, take, sym, refl, ap, ◌∙◌, subst, inl, inr, ⊎_elim, mul-zero, arith}
use Rattle.std.proofs.lemmas.Simd.{map-map}
use Rattle.std.proofs.lemmas.List.Elements.{All-from_recursion, recursion_from_All}
use native.Mathlib.Decide.{dec_le, dec_lt}
use Rattle.std.specs.List.{AllByRecursion}
use Rattle.std.proofs.ByRecursion.{All-from_get_or, All-map}
use Rattle.std.proofs.lemmas.List.{length-take-le, get_or-take}
use Rattle.std.proofs.lemmas.Bool.{ltb-true, ltb-false}
use Rattle.layout.specs.Tasks.{Model, WithinLimits, worth}
use Rattle.choosing.specs.Choice.{most}
use Rattle.choosing.specs.Plain.{plain}
use Rattle.choosing.specs.declared.Candidate.{Candidate}
use Rattle.choosing.proofs.Alike.{most_among, most_alike}
use Rattle.choosing.specs.Numbers.{plain_laws}
use Rattle.patterns.specs.declared.Oriented.{Oriented}
use Rattle.patterns.specs.Counting.{Counted}
use Rattle.patterns.specs.Named.{preferred, two_staged_pattern, divided, division, three_staged_pattern}
use Rattle.patterns.specs.Numbers.{numbers, no_piece}
use Rattle.patterns.specs.Patterns.{pieces_worth, StripOf, strip_worth, SegmentOf}
use Rattle.patterns.specs.Recursions.{Max, Stacking, Admitting, ByAcross, LastPlace, PieceOffer, StripOffer, PlaceOffer, ByLength, ByNumber, TwoStagedRecursions, UniformOffer, BySegment, both_sides, ThreeStagedRecursions, TwoStagedRecursionsHold, ThreeStagedRecursionsHold}
use Rattle.patterns.specs.Sequences.{sum}
use Rattle.patterns.specs.Strips.{by_value, by_along, by_across, no_wider, no_longer, general_strip, uniform_strip}
use Rattle.patterns.proofs.Lists.{all_each, pairs_at, In, in_at, in_has, all_in, in_all}
use Rattle.patterns.proofs.Numbered.{numbers_counted, counted_in}
use Rattle.patterns.proofs.Candidates.{Fine, all_sound, sizeable, all_preferred, in_preferred, in_no_wider, in_no_longer, all_no_wider, all_no_longer, strip_pieces, general_strips, uniform_strips, pieces_fine, uniform_fine}
use Rattle.patterns.proofs.Worths.{all_sizeable, two_fine}
use Rattle.patterns.proofs.Dividing.{lowest_best}
use Rattle.patterns.proofs.NamedLaws.{two_staged_worth, three_staged_worth}
use Rattle.patterns.proofs.NamedPatterns.{strip_unique, general_worth, no_longer_than, uniform_worth, segment_unique, segment_worth, place_same}
use Rattle.patterns.proofs.Rising.{Rise, risen}
use Rattle.patterns.proofs.Recursing.{among, most_stacks, stacks, admits, front_admits}

module _ (m : Model) (ok : WithinLimits m) where
  -- ---- two-staged, over the length of a strip

  -- the strip of q, and what it is worth at each length
  abbrev strip_most : Oriented → ℕ → ℕ
  strip_most q x = most plain (strip_pieces (numbers m) q.across) x

  -- what stands among the numbers no wider than q
  no_wider_in : (q p : Oriented) → In p (no_wider q.across (numbers m)) → Counted m p × (p.across ≤ q.across)
  no_wider_in q p i = in_all (λ (o : Oriented). Counted m o × (o.across ≤ q.across)) i (all_no_wider (Counted m) q.across (numbers m) (numbers_counted m))

  piece_each : (q x : Oriented) → In x (no_wider q.across (numbers m)) → PieceOffer m q x.along x.value
  piece_each q x i = let z = no_wider_in q x i in (x, z.0, z.1, refl, refl)

  piece_under : (q : Oriented) (a v : ℕ) → PieceOffer m q a v → (1 ≤ a) × ((v ≡ 0) ⊎ ((x : Oriented) × In x (no_wider q.across (numbers m)) × (x.along ≤ a) × (v ≤ x.value)))
  piece_under q a v (p, c, le, e, f) = (omega (arith, (sizeable m ok p c).along_least), inr (p, in_no_wider q.across (counted_in m p c) le, omega arith, omega arith))

  strip_stacks : (q : Oriented) (g : ℕ → ℕ) → Stacking (PieceOffer m q) g → (x : ℕ) → g x ≡ strip_most q x
  strip_stacks q g keeps x =
      stacks (by_along by_value) (no_wider q.across (numbers m)) (pieces_fine (numbers m) (all_sizeable m ok) q.across) (PieceOffer m q) (piece_each q) (piece_under q) g keeps x

  -- ---- two-staged, the stack of strips

  abbrev as_strip : Oriented → Candidate ℕ
  as_strip q = by_across (general_strip by_value m.length (numbers m) q)

  fused : general_strips m.length (numbers m) ≡ map as_strip (preferred (numbers m))
  fused = map-map by_across (general_strip by_value m.length (numbers m)) (preferred (numbers m))

  preferred_counted : (q : Oriented) → In q (preferred (numbers m)) → Counted m q
  preferred_counted q i = in_all (Counted m) i (all_preferred (Counted m) (numbers m) (numbers_counted m))

  -- offers that come to the strips of the numbers
  module _ (Offer : ℕ → ℕ → Type 0) (each : (q : Oriented) → Counted m q → Offer q.across (strip_most q m.length)) (under : (b w : ℕ) → Offer b w → (q : Oriented) × Counted m q × (b ≡ q.across) × (w ≤ strip_most q m.length)) where
    strip_each : (q : Oriented) → In q (preferred (numbers m)) → Offer q.across (strip_most q m.length)
    strip_each q i = each q (preferred_counted q i)

    strip_under : (b w : ℕ) → Offer b w → (1 ≤ b) × ((w ≡ 0) ⊎ ((q : Oriented) × In q (preferred (numbers m)) × (q.across ≤ b) × (w ≤ strip_most q m.length)))
    strip_under b w o = let z = under b w o in (omega (arith, z.2, (sizeable m ok z.0 z.1).across_least), inr (z.0, in_preferred (counted_in m z.0 z.1), omega (arith, z.2), z.3))

    stack_worth : (F : ℕ → ℕ) → Stacking Offer F → F m.width ≡ worth m (two_staged_pattern by_value m)
    stack_worth F keeps =
        stacks as_strip (preferred (numbers m)) (subst (AllByRecursion Fine) fused (two_fine m ok)) Offer strip_each strip_under F keeps m.width
        ∙ ap (λ cs. most plain cs m.width) (sym fused)
        ∙ sym (two_staged_worth m ok)

    stack_some : Stacking Offer (most plain (map as_strip (preferred (numbers m))))
    stack_some = most_stacks as_strip (preferred (numbers m)) (subst (AllByRecursion Fine) fused (two_fine m ok)) Offer strip_each strip_under

  by_length : (fq : Oriented → ℕ → ℕ) (F : ℕ → ℕ) → ByLength m fq F → F m.width ≡ worth m (two_staged_pattern by_value m)
  by_length fq F keeps =
      stack_worth (StripOffer m fq)
      (λ q c. (q, c, refl, sym (strip_stacks q (fq q) (keeps.strips q c) m.length)))
      (λ b w o. (o.0, o.1, o.2, omega (arith, o.3, strip_stacks o.0 (fq o.0) (keeps.strips o.0 o.1) m.length)))
      F keeps.stack

  -- the strip of q in the words of the rules is worth as much
  strip_is : (fq : Oriented → ℕ → ℕ) (F : ℕ → ℕ) → ByLength m fq F → (q : Oriented) → Counted m q → (pieces : List Oriented) → StripOf m q pieces → fq q m.length ≡ pieces_worth pieces
  strip_is fq F keeps q c pieces strip =
      strip_stacks q (fq q) (keeps.strips q c) m.length ∙ general_worth m ok q c ∙ ap pieces_worth (sym (strip_unique m ok q pieces strip))

  some_by_length : (fq : Oriented → ℕ → ℕ) × (F : ℕ → ℕ) × ByLength m fq F
  some_by_length = (
    strip_most,
    most plain (map as_strip (preferred (numbers m))),
    record {
      strips = λ q c. most_stacks (by_along by_value) (no_wider q.across (numbers m)) (pieces_fine (numbers m) (all_sizeable m ok) q.across) (PieceOffer m q) (piece_each q) (piece_under q);
      stack = stack_some (StripOffer m strip_most) (λ q c. (q, c, refl, refl)) (λ b w o. (o.0, o.1, o.2, omega (arith, o.3)));
    },
  )

  -- ---- two-staged, over the numbers in an order by across size

  module _ (qs : List Oriented) (order : ByAcross m qs) where
    place_counted : (k : ℕ) → k < length qs → Counted m (get_or qs k no_piece)
    place_counted k h = order.only k no_piece h

    all_fine : AllByRecursion Fine (map (by_along by_value) qs)
    all_fine = All-map Fine (by_along by_value) qs (all_each (λ q c. let z = sizeable m ok q c in (omega (arith, z.along_least), z.value_least)) qs (recursion_from_All (Counted m) qs order.only))

    -- the numbers up to a place are no wider than the one that stands there
    front_in : (k : ℕ) → k < length qs → (q : Oriented) → (get_or qs k no_piece).across ≤ q.across → (x : Oriented) → In x (take (suc k) qs) → In x (no_wider q.across (numbers m))
    front_in k h q le x i =
        in_all (λ (p : Oriented). In p (no_wider q.across (numbers m))) i
        (All-from_get_or (λ (p : Oriented). In p (no_wider q.across (numbers m))) (take (suc k) qs) no_piece (λ j l.
        let under : j < suc k = omega (arith, length-take-le (suc k) qs (omega arith)) in
        subst (λ p. In p (no_wider q.across (numbers m))) (sym (get_or-take (suc k) qs j no_piece under))
        (in_no_wider q.across (counted_in m (get_or qs j no_piece) (place_counted j (omega arith))) (lower j under (dec_lt j k)))))
      where
        lower : (j : ℕ) → j < suc k → Dec (j < k) → (get_or qs j no_piece).across ≤ q.across
        lower j under (yes lt) = omega (arith, order.rising j k lt h)
        lower j under (no ge) = let e : j ≡ k = omega arith in omega (arith, ap (λ n. (get_or qs n no_piece).across) e)

    -- and at the last place of an across size they are all of those
    front_all : (q : Oriented) (k : ℕ) (last : LastPlace qs q k) → (x : Oriented) → In x (no_wider q.across (numbers m)) → In x (take (suc last.before) qs)
    front_all q k last x i =
        let z = no_wider_in q x i in
        let at_place = order.every x z.0 in
        let e : get_or qs at_place.0 no_piece ≡ x = at_place.2 no_piece in
        by at_place.0 at_place.1 e z.1 (dec_le at_place.0 last.before)
      where
        by : (j : ℕ) → j < length qs → get_or qs j no_piece ≡ x → x.across ≤ q.across → Dec (j ≤ last.before) → In x (take (suc last.before) qs)
        by j h e le (yes early) =
            subst (λ p. In p (take (suc last.before) qs)) (get_or-take (suc last.before) qs j no_piece (omega arith) ∙ e)
            (in_at (take (suc last.before) qs) j no_piece (omega (arith, length-take-le (suc last.before) qs (omega (arith, last.known)))))
        by j h e le (no late) = absurd (omega (arith, last.last j (omega arith) h, ap (λ (p : Oriented). p.across) e))

    module _ (f : ℕ → ℕ → ℕ) (admitting : Admitting qs f) where
      -- up to a place the strip is worth no more than that of the number there
      place_under : (k : ℕ) → k < length qs → (x : ℕ) → f (suc k) x ≤ strip_most (get_or qs k no_piece) x
      place_under k h x =
          let q = get_or qs k no_piece in
          let cands = strip_pieces (numbers m) q.across in
          omega (
            arith,
            admits qs all_fine f admitting (suc k) (omega arith) x,
            ltb-false (most plain cands x) (most plain (map (by_along by_value) (take (suc k) qs)) x)
                (most_among (map (by_along by_value) (take (suc k) qs)) cands (among (by_along by_value) (take (suc k) qs) (no_wider q.across (numbers m)) (front_in k h q (omega arith))) plain_laws (all_sound cands (pieces_fine (numbers m) (all_sizeable m ok) q.across)) x),
          )

      -- at the last place of its across size it is worth as much
      pub last_is : (q : Oriented) (k : ℕ) → LastPlace qs q k → (x : ℕ) → f k x ≡ strip_most q x
      last_is q k last x =
          let cands = strip_pieces (numbers m) q.across in
          let front = take (suc last.before) qs in
          ap (λ n. f n x) last.is
          ∙ admits qs all_fine f admitting (suc last.before) (omega (arith, last.known)) x
          ∙ sym (most_alike plain_laws cands (map (by_along by_value) front) (all_sound cands (pieces_fine (numbers m) (all_sizeable m ok) q.across))
          (among (by_along by_value) (no_wider q.across (numbers m)) front (front_all q k last))
          (among (by_along by_value) front (no_wider q.across (numbers m)) (front_in last.before last.known q (omega (arith, last.same))))
          x)

    -- ---- the last place of an across size

    -- no number is as narrow as h, or there is a last such
    record Narrow (h : ℕ) (xs : List Oriented) : Type 0 where
      place : ℕ
      known : place < length xs
      fits : (get_or xs place no_piece).across ≤ h
      last : (i : ℕ) → place < i → i < length xs → h < (get_or xs i no_piece).across

    narrow : (h : ℕ) (xs : List Oriented) → ((i : ℕ) → i < length xs → h < (get_or xs i no_piece).across) ⊎ Narrow h xs
    narrow h [] = inl (λ i l. absurd (omega arith))
    narrow h (x ∷ xs) = by (narrow h xs) (dec_le x.across h)
      where
        by : ((i : ℕ) → i < length xs → h < (get_or xs i no_piece).across) ⊎ Narrow h xs → Dec (x.across ≤ h) → ((i : ℕ) → i < length (x ∷ xs) → h < (get_or (x ∷ xs) i no_piece).across) ⊎ Narrow h (x ∷ xs)
        by (inr n) _ = inr (record { place = suc n.place; known = omega (arith, n.known); fits = n.fits; last = beyond })
          where
            beyond : (i : ℕ) → suc n.place < i → i < length (x ∷ xs) → h < (get_or (x ∷ xs) i no_piece).across
            beyond zero lt l = absurd (omega arith)
            beyond (suc i) lt l = n.last i (omega arith) (omega arith)
        by (inl none) (yes le) = inr (record { place = 0; known = omega arith; fits = le; last = beyond })
          where
            beyond : (i : ℕ) → 0 < i → i < length (x ∷ xs) → h < (get_or (x ∷ xs) i no_piece).across
            beyond zero lt l = absurd (omega arith)
            beyond (suc i) lt l = none i (omega arith)
        by (inl none) (no gt) = inl all
          where
            all : (i : ℕ) → i < length (x ∷ xs) → h < (get_or (x ∷ xs) i no_piece).across
            all zero l = omega arith
            all (suc i) l = none i (omega arith)

    pub last_place : (q : Oriented) → Counted m q → (k : ℕ) × LastPlace qs q k
    last_place q c =
        let at_place = order.every q c in
        let e : get_or qs at_place.0 no_piece ≡ q = at_place.2 no_piece in
        let same = ap (λ (p : Oriented). p.across) e in
        ⊎_elim (λ none. absurd (omega (arith, none at_place.0 at_place.1, same)))
        (λ n. (suc n.place, record { before = n.place; is = refl; known = n.known; same = equal at_place.0 at_place.1 same n (dec_lt at_place.0 n.place); last = n.last }))
        (narrow q.across qs)
      where
        equal : (i : ℕ) → i < length qs → (get_or qs i no_piece).across ≡ q.across → (n : Narrow q.across qs) → Dec (i < n.place) → (get_or qs n.place no_piece).across ≡ q.across
        equal i h e n (yes lt) = omega (arith, n.fits, order.rising i n.place lt n.known)
        equal i h e n (no ge) = elim (dec_lt n.place i) [
          | yes gt ↦ absurd (omega (arith, n.last i gt h))
          | no le ↦ (let j : n.place ≡ i = omega arith in ap (λ k. (get_or qs k no_piece).across) j ∙ e)
        ]

    module _ (f : ℕ → ℕ → ℕ) (admitting : Admitting qs f) where
      place_each : (q : Oriented) → Counted m q → PlaceOffer m qs f q.across (strip_most q m.length)
      place_each q c = let z = last_place q c in (z.1.before, z.1.known, sym z.1.same, sym (last_is f admitting q z.0 z.1 m.length) ∙ ap (λ n. f n m.length) z.1.is)

      place_most : (b w : ℕ) → PlaceOffer m qs f b w → (q : Oriented) × Counted m q × (b ≡ q.across) × (w ≤ strip_most q m.length)
      place_most b w o = (get_or qs o.0 no_piece, place_counted o.0 o.1, o.2, omega (arith, o.3, place_under f admitting o.0 o.1 m.length))

      by_number : (F : ℕ → ℕ) → Stacking (PlaceOffer m qs f) F → F m.width ≡ worth m (two_staged_pattern by_value m)
      by_number F stacking = stack_worth (PlaceOffer m qs f) place_each place_most F stacking

      some_stack : Stacking (PlaceOffer m qs f) (most plain (map as_strip (preferred (numbers m))))
      some_stack = stack_some (PlaceOffer m qs f) place_each place_most

  -- there is an order by across size
  some_order : (qs : List Oriented) × ByAcross m qs
  some_order =
      let r = risen (numbers m) in (
        r.list,
        record {
          only = All-from_recursion (Counted m) r.list (all_in (Counted m) r.list (λ q i. in_all (Counted m) (r.only q i) (numbers_counted m)));
          every = λ q c. in_has (r.every q (counted_in m q c));
          rising = λ i j lt h. pairs_at Rise r.list r.rising i j no_piece lt h;
        },
      )

  some_by_number : (qs : List Oriented) × (f : ℕ → ℕ → ℕ) × (F : ℕ → ℕ) × ByNumber m qs f F
  some_by_number =
      let o = some_order in
      let admits_too = front_admits o.0 (all_fine o.0 o.1) in (
        o.0,
        λ k x. most plain (map (by_along by_value) (take k o.0)) x,
        most plain (map as_strip (preferred (numbers m))),
        record { order = o.1; strips = admits_too; stack = some_stack o.0 o.1 (λ k x. most plain (map (by_along by_value) (take k o.0)) x) admits_too },
      )

  pub two_recursions : TwoStagedRecursions m
  two_recursions = record {
    by_length = by_length;
    by_number = λ qs f F keeps. by_number qs keeps.order f keeps.strips F keeps.stack;
    strip = strip_is;
    agree = λ fq F keeps qs f H other q c k last x. last_is qs other.order f other.strips q k last x ∙ sym (strip_stacks q (fq q) (keeps.strips q c) x);
    some_by_length = some_by_length;
    some_by_number = some_by_number;
  }

  -- ---- three-staged

  module _ (c : ℕ) where
    abbrev as_uniform : Oriented → Candidate ℕ
    as_uniform q = by_across (uniform_strip by_value c q)

    fused_uniform : uniform_strips c (numbers m) ≡ map as_uniform (no_longer c (preferred (numbers m)))
    fused_uniform = map-map by_across (uniform_strip by_value c) (no_longer c (preferred (numbers m)))

    uniform_each : (q : Oriented) → In q (no_longer c (preferred (numbers m))) → UniformOffer m c q.across (uniform_strip by_value c q).worth
    uniform_each q i = (q, (in_all (λ (o : Oriented). Counted m o × (o.along ≤ c)) i (all_no_longer (Counted m) c (preferred (numbers m)) (all_preferred (Counted m) (numbers m) (numbers_counted m)))).0, refl, uniform_worth m ok c q)

    uniform_under : (b w : ℕ) → UniformOffer m c b w → (1 ≤ b) × ((w ≡ 0) ⊎ ((q : Oriented) × In q (no_longer c (preferred (numbers m))) × (q.across ≤ b) × (w ≤ (uniform_strip by_value c q).worth)))
    uniform_under b w (q, counted, e, f) = (omega (arith, e, (sizeable m ok q counted).across_least), by (dec_le q.along c))
      where
        by : Dec (q.along ≤ c) → (w ≡ 0) ⊎ ((p : Oriented) × In p (no_longer c (preferred (numbers m))) × (p.across ≤ b) × (w ≤ (uniform_strip by_value c p).worth))
        by (yes le) = inr (q, in_no_longer c (in_preferred (counted_in m q counted)) le, omega arith, omega (arith, f, uniform_worth m ok c q))
        by (no gt) =
            let none : c / q.along ≡ 0 = elim (dec_le 1 (c / q.along)) [ yes some ↦ absurd (gt (no_longer_than m ok c q counted some)) | no few ↦ omega arith ] in
            inl (f ∙ ap (λ n. q.value * n) none ∙ mul-zero q.value)

    segment_stacks : (G : ℕ → ℕ) → Stacking (UniformOffer m c) G → (y : ℕ) → G y ≡ most plain (uniform_strips c (numbers m)) y
    segment_stacks G keeps y =
        stacks as_uniform (no_longer c (preferred (numbers m))) (subst (AllByRecursion Fine) fused_uniform (uniform_fine c (numbers m) (all_sizeable m ok))) (UniformOffer m c) uniform_each uniform_under G keeps y
        ∙ ap (λ cs. most plain cs y) (sym fused_uniform)

  some_by_segment : (G : ℕ → ℕ → ℕ) × BySegment m G
  some_by_segment = (
    λ c. most plain (map (as_uniform c) (no_longer c (preferred (numbers m)))),
    λ c h. most_stacks (as_uniform c) (no_longer c (preferred (numbers m))) (subst (AllByRecursion Fine) (fused_uniform c) (uniform_fine c (numbers m) (all_sizeable m ok))) (UniformOffer m c) (uniform_each c) (uniform_under c),
  )

  module _ (G : ℕ → ℕ → ℕ) (keeps : BySegment m G) where
    segment_is : (c : ℕ) → c ≤ m.length → (qs : List Oriented) → SegmentOf m c qs → G c m.width ≡ sum (strip_worth c) qs
    segment_is c h qs segment =
        segment_stacks c (G c) (keeps c h) m.width ∙ sym (segment_worth m ok c) ∙ ap (sum (strip_worth c)) (sym (segment_unique m ok c qs segment))

    sides_are : (c : ℕ) → c ≤ m.length → both_sides m G c ≡ (divided by_value m c).worth
    sides_are c h = omega (arith, segment_stacks c (G c) (keeps c h) m.width, segment_stacks (m.length - c) (G (m.length - c)) (keeps (m.length - c) (omega arith)) m.width)

    best_sides : both_sides m G (division by_value m m.length).place ≡ worth m (three_staged_pattern by_value m)
    best_sides = let d = lowest_best by_value plain_laws m m.length in sides_are (division by_value m m.length).place d.reached ∙ sym (ap (λ z. z.worth) d.is) ∙ sym (three_staged_worth m ok)

    best_max : Max (λ t. (c : ℕ) × (c ≤ m.length) × (t ≡ both_sides m G c)) (worth m (three_staged_pattern by_value m))
    best_max =
        let d = lowest_best by_value plain_laws m m.length in (
          ((division by_value m m.length).place, d.reached, sym best_sides),
          λ t x. omega (arith, x.2, sides_are x.0 x.1, three_staged_worth m ok, ltb-false (division by_value m m.length).worth (divided by_value m x.0).worth (d.greatest x.0 x.1)),
        )

    best_lowest : (c : ℕ) → c < (division by_value m m.length).place → both_sides m G c < worth m (three_staged_pattern by_value m)
    best_lowest c h =
        let d = lowest_best by_value plain_laws m m.length in
        omega (arith, sides_are c (omega (arith, d.reached)), three_staged_worth m ok, ltb-true (divided by_value m c).worth (division by_value m m.length).worth (d.lowest c h))

  pub three_recursions : ThreeStagedRecursions m
  three_recursions = record { greatest = best_max; reached = λ G keeps pattern. ap (both_sides m G) (place_same m ok (three_staged_pattern by_value m) pattern) ∙ best_sides G keeps; lowest = λ G keeps pattern c h. best_lowest G keeps c (omega (arith, place_same m ok (three_staged_pattern by_value m) pattern)); segment = segment_is; some_by_segment = some_by_segment }

pub two_staged_recursions_lem : TwoStagedRecursionsHold
two_staged_recursions_lem m ok = two_recursions m ok

pub three_staged_recursions_lem : ThreeStagedRecursionsHold
three_staged_recursions_lem m ok = three_recursions m ok
