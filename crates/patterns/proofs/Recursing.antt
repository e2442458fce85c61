-- Whatever keeps to a published recursion gives the greatest worth of the candidates that it goes over.
use Rattle.std.proofs.Common.{◌≡◌, ℕ, zero, suc, ◌+◌, ◌-◌, ◌<◌, ◌≤◌, Bool, true, false, cond, ltb, leb, ◌⊎◌, List, [], ◌∷◌, ◌++◌, map, length, get_or, take, sym, refl, ap, ◌∙◌, subst, inl, inr, ⊎_elim, arith}
use Rattle.std.specs.List.{AllByRecursion}
use Rattle.std.proofs.ByRecursion.{All-take}
use Rattle.std.proofs.lemmas.List.{length-map, take-map, take_more}
use Rattle.std.proofs.lemmas.Bool.{leb-true, leb-false, ltb-true, ltb-false}
use Rattle.choosing.specs.Choice.{size_at, Choice, most}
use Rattle.choosing.specs.Plain.{plain}
use Rattle.choosing.specs.Recursion.{larger, Admission}
use Rattle.choosing.specs.declared.Candidate.{Candidate}
use Rattle.choosing.proofs.Admitting.{admitted}
use Rattle.choosing.proofs.Alike.{Among, most_among}
use Rattle.choosing.proofs.Choosing.{chosen_first}
use Rattle.choosing.specs.Numbers.{plain_laws}
use Rattle.patterns.specs.declared.Oriented.{Oriented}
use Rattle.patterns.specs.Numbers.{no_piece}
use Rattle.patterns.specs.Recursions.{Max, Stacking, Admitting}
use Rattle.patterns.specs.Strips.{by_value, by_along}
use Rattle.patterns.proofs.Lists.{In, here, there, in_at, in_all, in_join, join_left, join_right}
use Rattle.patterns.proofs.Candidates.{Fine, all_sound, grows, taken, placed}
use Rattle.patterns.proofs.Chosen.{one_at}

-- the same elements give the same candidates
pub among : (f : Oriented → Candidate ℕ) (xs ys : List Oriented) → ((x : Oriented) → In x xs → In x ys) → Among plain (map f xs) (map f ys)
among f xs ys inside i h =
    let here = one_at f no_piece xs i h in
    let there = placed f (inside (get_or xs i no_piece) (in_at xs i no_piece (omega (arith, length-map xs f)))) in
    record { place = there.0; known = there.1; size_is = here.0 ∙ sym there.2; worth_is = here.1 ∙ sym there.3 }

-- what the best begins with
record Led (f : Oriented → Candidate ℕ) (xs : List Oriented) (y : ℕ) : Type 0 where
  which : Oriented
  inside : In which xs
  room : 1 ≤ (f which).size
  fits : (f which).size ≤ y
  worth_is : most plain (map f xs) y ≡ (f which).worth + most plain (map f xs) (y - (f which).size)

-- the best is worth nothing, or begins with a candidate
led : (f : Oriented → Candidate ℕ) (xs : List Oriented) → AllByRecursion Fine (map f xs) → (y : ℕ) → (most plain (map f xs) y ≡ 0) ⊎ Led f xs y
led f xs fine y =
    ⊎_elim (λ n. inl (ap (λ (c : Choice ℕ). c.worth) n.is))
    (λ l.
    let k = one_at f no_piece xs l.0 l.1.known in
    inr (record {
      which = get_or xs l.0 no_piece;
      inside = in_at xs l.0 no_piece (omega (arith, l.1.known, length-map xs f));
      room = omega (arith, (all_sound (map f xs) fine).room l.0 l.1.known, k.0);
      fits = omega (arith, l.1.fits, k.0);
      worth_is = ap (λ (c : Choice ℕ). c.worth) l.1.is ∙ ap (λ w. w + most plain (map f xs) (y - size_at (map f xs) l.0)) k.1 ∙ ap (λ n. (f (get_or xs l.0 no_piece)).worth + most plain (map f xs) (y - n)) k.0;
    }))
    (chosen_first plain_laws (map f xs) (all_sound (map f xs) fine) y)

-- ---- one unit at a time

-- Each candidate is an offer, and each offer takes room and is worth nothing or no more than a candidate that is no larger.
module _ (f : Oriented → Candidate ℕ) (xs : List Oriented) (fine : AllByRecursion Fine (map f xs)) (Offer : ℕ → ℕ → Type 0)
    (each : (x : Oriented) → In x xs → Offer (f x).size (f x).worth)
    (under : (b w : ℕ) → Offer b w → (1 ≤ b) × ((w ≡ 0) ⊎ ((x : Oriented) × In x xs × ((f x).size ≤ b) × (w ≤ (f x).worth)))) where
  -- an offer and the best of the room that it leaves
  offer_under : (y b w : ℕ) → Offer b w → b ≤ y → w + most plain (map f xs) (y - b) ≤ most plain (map f xs) y
  offer_under y b w offer fits =
      ⊎_elim (λ none. omega (arith, none, grows (map f xs) fine (y - b) y (omega arith)))
      (λ some.
      let k = placed f some.1 in
      let whole : y - 0 ≡ y = omega arith in
      omega (arith, k.3, some.3, taken (map f xs) fine y 0 b k.0 k.1 (omega (arith, k.2, some.2)) fits, ap (most plain (map f xs)) whole))
      (under b w offer).1

  at_none : most plain (map f xs) 0 ≡ 0
  at_none = ⊎_elim (λ e. e) (λ l. absurd (omega (arith, l.room, l.fits))) (led f xs fine 0)

  -- the greatest worth keeps to the recursion
  pub most_stacks : Stacking Offer (most plain (map f xs))
  most_stacks = record { start = at_none; step = λ y. (reached y, above y) }
    where
      reached : (y : ℕ) → (most plain (map f xs) (suc y) ≡ most plain (map f xs) y) ⊎ ((b : ℕ) × (w : ℕ) × Offer b w × (b ≤ suc y) × (most plain (map f xs) (suc y) ≡ w + most plain (map f xs) (suc y - b)))
      reached y =
          ⊎_elim (λ e. inl (omega (arith, e, grows (map f xs) fine y (suc y) (omega arith))))
          (λ l. inr ((f l.which).size, (f l.which).worth, each l.which l.inside, l.fits, l.worth_is))
          (led f xs fine (suc y))

      above : (y t : ℕ) → (t ≡ most plain (map f xs) y) ⊎ ((b : ℕ) × (w : ℕ) × Offer b w × (b ≤ suc y) × (t ≡ w + most plain (map f xs) (suc y - b))) → t ≤ most plain (map f xs) (suc y)
      above y t (inl e) = omega (arith, e, grows (map f xs) fine y (suc y) (omega arith))
      above y t (inr (b, w, o, h, e)) = omega (arith, e, offer_under (suc y) b w o h)

  module _ (S : ℕ → ℕ) (stacking : Stacking Offer S) where
    -- the step, where S is right at each smaller capacity
    stack_step : (y : ℕ) → ((z : ℕ) → z < suc y → S z ≡ most plain (map f xs) z) → S (suc y) ≡ most plain (map f xs) (suc y)
    stack_step y smaller = omega (arith, upper (stacking.step y).0, lower (led f xs fine (suc y)))
      where
        upper : (S (suc y) ≡ S y) ⊎ ((b : ℕ) × (w : ℕ) × Offer b w × (b ≤ suc y) × (S (suc y) ≡ w + S (suc y - b))) → S (suc y) ≤ most plain (map f xs) (suc y)
        upper (inl e) = omega (arith, e, smaller y (omega arith), grows (map f xs) fine y (suc y) (omega arith))
        upper (inr (b, w, o, fits, e)) = omega (arith, e, smaller (suc y - b) (omega (arith, (under b w o).0)), offer_under (suc y) b w o fits)

        lower : (most plain (map f xs) (suc y) ≡ 0) ⊎ Led f xs (suc y) → most plain (map f xs) (suc y) ≤ S (suc y)
        lower (inl e) = omega arith
        lower (inr l) =
            let b = (f l.which).size in
            let w = (f l.which).worth in
            omega (arith, l.worth_is, smaller (suc y - b) (omega (arith, l.room)), (stacking.step y).1 (w + S (suc y - b)) (inr (b, w, each l.which l.inside, l.fits, refl)))

    stacks_to : (n y : ℕ) → y ≤ n → S y ≡ most plain (map f xs) y
    stacks_to n zero h = stacking.start ∙ sym at_none
    stacks_to zero (suc y) h = absurd (omega arith)
    stacks_to (suc n) (suc y) h = stack_step y (λ z l. stacks_to n z (omega arith))

    -- whatever keeps to the recursion is the greatest worth
    pub stacks : (y : ℕ) → S y ≡ most plain (map f xs) y
    stacks y = stacks_to y y (omega arith)

-- ---- one number after the other

-- a maximum of two terms, of which the second stands under a condition
one_of : (a x u v n : ℕ) → Max (λ t. (t ≡ u) ⊎ ((a ≤ x) × (t ≡ v))) n → n ≡ cond (leb a x) (larger plain u v) u
one_of a x u v n (is, above) = by (leb a x) refl
  where
    both : a ≤ x → (b : Bool) → ltb u v ≡ b → n ≡ cond b v u
    both fits true e = let lt = ltb-true u v e in ⊎_elim (λ z. absurd (omega (arith, above v (inr (fits, refl))))) (λ z. z.1) is
    both fits false e = let le = ltb-false u v e in ⊎_elim (λ z. z) (λ z. omega (arith, z.1, above u (inl refl))) is

    by : (b : Bool) → leb a x ≡ b → n ≡ cond b (larger plain u v) u
    by true e = both (leb-true a x e) (ltb u v) refl
    by false e = let lt = leb-false a x e in ⊎_elim (λ z. z) (λ z. absurd (omega (arith, z.0))) is

module _ (qs : List Oriented) (fine : AllByRecursion Fine (map (by_along by_value) qs)) (f : ℕ → ℕ → ℕ) (admitting : Admitting qs f) where
  admission : Admission plain (map (by_along by_value) qs) f
  admission = record {
    start = admitting.start;
    step = λ k x h.
        let known : k < length qs = omega (arith, length-map qs (by_along by_value)) in
        let here = one_at (by_along by_value) no_piece qs k h in
        let q = get_or qs k no_piece in
        one_of q.along x (f k x) (q.value + f (suc k) (x - q.along)) (f (suc k) x) (admitting.step k x known)
        ∙ ap (λ a. cond (leb a x) (larger plain (f k x) (q.value + f (suc k) (x - a))) (f k x)) (sym here.0)
        ∙ ap (λ v. cond (leb (size_at (map (by_along by_value) qs) k) x) (larger plain (f k x) (v + f (suc k) (x - size_at (map (by_along by_value) qs) k))) (f k x)) (sym here.1);
  }

  -- f (k, x) is the greatest worth of the first k numbers
  pub admits : (k : ℕ) → k ≤ length qs → (x : ℕ) → f k x ≡ most plain (map (by_along by_value) (take k qs)) x
  admits k h x =
      admitted plain_laws (λ a b. omega arith) (map (by_along by_value) qs) (all_sound (map (by_along by_value) qs) fine) f admission k (omega (arith, length-map qs (by_along by_value))) x
      ∙ ap (λ cs. most plain cs x) (take-map (by_along by_value) k qs)

-- ---- the greatest worth of the first k numbers keeps to that recursion too

module _ (qs : List Oriented) (fine : AllByRecursion Fine (map (by_along by_value) qs)) where
  abbrev front_most : ℕ → ℕ → ℕ
  front_most k x = most plain (map (by_along by_value) (take k qs)) x

  front_fine : (k : ℕ) → AllByRecursion Fine (map (by_along by_value) (take k qs))
  front_fine k = subst (AllByRecursion Fine) (take-map (by_along by_value) k qs) (All-take Fine k (map (by_along by_value) qs) fine)

  module _ (k : ℕ) (known : k < length qs) where
    abbrev new : Oriented
    new = get_or qs k no_piece

    -- one number more stands at the end
    one_more : take (suc k) qs ≡ take k qs ++ (get_or qs k no_piece ∷ [])
    one_more = ap (λ n. take n qs) (let e : suc k ≡ k + 1 = omega arith in e) ∙ take_more qs k no_piece known

    new_in : In new (take (suc k) qs)
    new_in = subst (In new) (sym one_more) (join_right (take k qs) here)

    old_in : (p : Oriented) → In p (take k qs) → In p (take (suc k) qs)
    old_in p i = subst (In p) (sym one_more) (join_left (new ∷ []) i)

    old_or_new : (p : Oriented) → In p (take (suc k) qs) → In p (take k qs) ⊎ (p ≡ new)
    old_or_new p i = ⊎_elim (λ j. inl j) (λ j. inr (only p j)) (in_join (take k qs) (new ∷ []) (subst (In p) one_more i))
      where
        only : (a : Oriented) → In a (new ∷ []) → a ≡ new
        only a here = refl
        only a (there i) = absurd (in_all (λ (b : Oriented). ⊥) i tt)

    -- a number of the list, and the best of the room that it leaves
    leads : (n x : ℕ) (p : Oriented) → In p (take n qs) → p.along ≤ x → p.value + front_most n (x - p.along) ≤ front_most n x
    leads n x p i fits =
        let j = placed (by_along by_value) i in
        let whole : x - 0 ≡ x = omega arith in
        omega (arith, j.3, taken (map (by_along by_value) (take n qs)) (front_fine n) x 0 p.along j.0 j.1 (omega (arith, j.2)) fits, ap (front_most n) whole)

    fewer : (x : ℕ) → front_most k x ≤ front_most (suc k) x
    fewer x =
        let more = map (by_along by_value) (take (suc k) qs) in
        ltb-false (front_most (suc k) x) (front_most k x) (most_among (map (by_along by_value) (take k qs)) more (among (by_along by_value) (take k qs) (take (suc k) qs) old_in) plain_laws (all_sound more (front_fine (suc k))) x)

    abbrev Term : ℕ → ℕ → Type 0
    Term x t = (t ≡ front_most k x) ⊎ ((new.along ≤ x) × (t ≡ new.value + front_most (suc k) (x - new.along)))

    -- the step, where it is right at each smaller length
    front_step : (x : ℕ) → ((z : ℕ) → z < x → Term z (front_most (suc k) z)) → Term x (front_most (suc k) x)
    front_step x smaller = ⊎_elim (λ e. inl (omega (arith, e, fewer x))) by (led (by_along by_value) (take (suc k) qs) (front_fine (suc k)) x)
      where
        by : Led (by_along by_value) (take (suc k) qs) x → Term x (front_most (suc k) x)
        by l =
            ⊎_elim (λ j. old j (smaller (x - l.which.along) (omega (arith, l.room, l.fits))))
            (λ same. inr (omega (arith, l.fits, ap (λ (q : Oriented). q.along) same), l.worth_is ∙ ap (λ (q : Oriented). q.value + front_most (suc k) (x - q.along)) same))
            (old_or_new l.which l.inside)
          where
            old : In l.which (take k qs) → Term (x - l.which.along) (front_most (suc k) (x - l.which.along)) → Term x (front_most (suc k) x)
            old j (inl f) = inl (omega (arith, l.worth_is, f, leads k x l.which j l.fits, fewer x))
            old j (inr (r, f)) =
                let swapped : x - l.which.along - new.along ≡ x - new.along - l.which.along = omega arith in
                let room : new.along ≤ x = omega (arith, l.fits) in
                inr (room, omega (arith, l.worth_is, f, ap (front_most (suc k)) swapped, leads (suc k) (x - new.along) l.which l.inside (omega (arith, l.fits)), leads (suc k) x new new_in room))

    front_to : (n x : ℕ) → x ≤ n → Term x (front_most (suc k) x)
    front_to zero x h = front_step x (λ z l. absurd (omega arith))
    front_to (suc n) x h = front_step x (λ z l. front_to n z (omega arith))

  pub front_admits : Admitting qs front_most
  front_admits = record {
    start = λ x. most_of_none x;
    step = λ k x known. (front_to k known x x (omega arith), λ t term. ⊎_elim (λ e. omega (arith, e, fewer k known x)) (λ e. omega (arith, e.1, leads k known (suc k) x (get_or qs k no_piece) (new_in k known) e.0)) term);
  }
    where
      most_of_none : (x : ℕ) → most plain [] x ≡ 0
      most_of_none x = ⊎_elim (λ e. e) (λ l. absurd (in_all (λ (b : Oriented). ⊥) l.inside tt)) (led (by_along by_value) [] tt x)
