-- The first choice of positions in a list is the first sequence of the numbers that stand there; and there is only one.
use Rattle.std.proofs.Common.{◌≡◌, ℕ, suc, ◌<◌, List, [], ◌∷◌, map, length, get_or, sym, refl, ap, ◌∙◌, subst, inl, inr, ⊎_elim, All, arith}
use Rattle.std.proofs.lemmas.List.Elements.{All-from_recursion, All-head, All-tail}
use Rattle.std.specs.List.{AllByRecursion}
use Rattle.std.proofs.lemmas.List.{length-map, get_or-map}
use Rattle.std.proofs.lemmas.Bool.{ltb-false}
use Rattle.choosing.specs.Choice.{total_worth, Known, Feasible, Before, First}
use Rattle.choosing.specs.Plain.{plain}
use Rattle.choosing.specs.declared.Candidate.{Candidate}
use Rattle.patterns.specs.declared.Oriented.{Oriented}
use Rattle.patterns.specs.Numbers.{no_piece}
use Rattle.patterns.specs.Sequences.{sum, Fits, FirstBest}
use Rattle.patterns.specs.Strips.{at}
use Rattle.patterns.proofs.Lists.{Pairs, pairs_at, In, here, there, in_every, all_in}
use Rattle.patterns.proofs.Chosen.{Taken, taken_at}

-- ---- maps

pub map_same : {A B : Type 0} (f g : A → B) (xs : List A) → AllByRecursion (λ (a : A). f a ≡ g a) xs → map f xs ≡ map g xs
map_same f g [] same = refl
map_same f g (x ∷ xs) same = ap (λ y. y ∷ map f xs) same.0 ∙ ap (λ ys. g x ∷ ys) (map_same f g xs same.1)

pub at_map : {A B : Type 0} (f : A → B) (d : A) (e : B) (xs : List A) (ks : List ℕ) → AllByRecursion (λ (k : ℕ). k < length xs) ks → at e (map f xs) ks ≡ map f (at d xs ks)
at_map f d e xs [] known = refl
at_map f d e xs (k ∷ ks) known = ap (λ y. y ∷ at e (map f xs) ks) (get_or-map f xs k d e known.0) ∙ ap (λ ys. f (get_or xs k d) ∷ ys) (at_map f d e xs ks known.1)

pub known_places : {A W : Type 0} (f : A → Candidate W) (xs : List A) (ks : List ℕ) → Known (map f xs) ks → AllByRecursion (λ (k : ℕ). k < length xs) ks
known_places f xs [] known = tt
known_places f xs (k ∷ ks) known = (omega (arith, known.0, length-map xs f), known_places f xs ks known.1)

-- ---- from positions to numbers

module _ (rank : Oriented → ℕ) (f : Oriented → Candidate ℕ) (xs : List Oriented) (ordered : Pairs (λ (a b : Oriented). rank a < rank b) xs) where
  position : {p : Oriented} {ys : List Oriented} → In p ys → (k : ℕ) × (k < length (map f ys)) × (get_or ys k no_piece ≡ p)
  position here = (0, omega arith, refl)
  position (there i) = let r = position i in (suc r.0, omega (arith, r.1), r.2)

  -- where the numbers of a sequence stand
  record Positions (ps : List Oriented) : Type 0 where
    places : List ℕ
    known : Known (map f xs) places
    is : at no_piece xs places ≡ ps

  positions : (ps : List Oriented) → AllByRecursion (λ (p : Oriented). In p xs) ps → Positions ps
  positions [] ok = record { places = []; known = tt; is = refl }
  positions (p ∷ ps) ok =
      let here = position ok.0 in
      let later = positions ps ok.1 in
      record {
        places = here.0 ∷ later.places;
        known = (here.1, later.known);
        is = ap (λ q. q ∷ at no_piece xs later.places) here.2 ∙ ap (λ qs. p ∷ qs) later.is;
      }

  before_ranks : (js ks : List ℕ) → Known (map f xs) js → Known (map f xs) ks → Before js ks → Before (map rank (at no_piece xs js)) (map rank (at no_piece xs ks))
  before_ranks [] ks a b h = absurd h
  before_ranks (j ∷ js) [] a b h = absurd h
  before_ranks (j ∷ js) (k ∷ ks) a b (inl lt) = inl (pairs_at (λ (p q : Oriented). rank p < rank q) xs ordered j k no_piece lt (omega (arith, b.0, length-map xs f)))
  before_ranks (j ∷ js) (k ∷ ks) a b (inr (e, h)) = inr (ap (λ n. rank (get_or xs n no_piece)) e, before_ranks js ks a.1 b.1 h)

  pub first_best : (Usable : Oriented → Type 0) (cap : ℕ) (ks : List ℕ) → ((p : Oriented) → Usable p → In p xs) → AllByRecursion Usable xs → First plain (map f xs) cap ks → FirstBest rank Usable (λ (o : Oriented). (f o).size) (λ (o : Oriented). (f o).worth) cap (at no_piece xs ks)
  first_best Usable cap ks inside ok first =
      record {
        fits = record { usable = All-from_recursion Usable (at no_piece xs ks) mine.each; within = omega (arith, mine.size_is, first.feasible.within) };
        greatest = λ ps fits. let other = where_is ps fits in let t = total other in omega (arith, ap (sum (λ (o : Oriented). (f o).worth)) other.is, t.worth_is, mine.worth_is, ltb-false (total_worth plain (map f xs) ks) (total_worth plain (map f xs) other.places) (first.greatest other.places (feasible ps fits other)));
        earliest = λ ps fits same. let other = where_is ps fits in let t = total other in
            ⊎_elim (λ e. inl (sym other.is ∙ ap (at no_piece xs) e)) (λ b. inr (subst (λ qs. Before (map rank (at no_piece xs ks)) (map rank qs)) other.is (before_ranks ks other.places first.feasible.known other.known b)))
            (first.earliest other.places (feasible ps fits other) (omega (arith, same, ap (sum (λ (o : Oriented). (f o).worth)) other.is, t.worth_is, mine.worth_is)));
      }
    where
      mine : Taken f no_piece Usable xs ks
      mine = taken_at f no_piece Usable xs ks ok first.feasible.known

      where_is : (ps : List Oriented) → Fits Usable (λ (o : Oriented). (f o).size) cap ps → Positions ps
      where_is ps fits = positions ps (all_in (λ (p : Oriented). In p xs) ps (λ p i. inside p (in_every Usable i fits.usable)))

      total : {ps : List Oriented} (other : Positions ps) → Taken f no_piece Usable xs other.places
      total other = taken_at f no_piece Usable xs other.places ok other.known

      feasible : (ps : List Oriented) → Fits Usable (λ (o : Oriented). (f o).size) cap ps → (other : Positions ps) → Feasible (map f xs) cap other.places
      feasible ps fits other = record { known = other.known; within = omega (arith, fits.within, ap (sum (λ (o : Oriented). (f o).size)) other.is, (total other).size_is) }

-- ---- the same under worths that agree on what may be used

sum_same : (Usable : Oriented → Type 0) (v w : Oriented → ℕ) → ((q : Oriented) → Usable q → v q ≡ w q) → (qs : List Oriented) → All Usable qs → sum v qs ≡ sum w qs
sum_same Usable v w same [] ok = refl
sum_same Usable v w same (q ∷ qs) ok = omega (arith, same q (All-head Usable q qs ok), sum_same Usable v w same qs (All-tail Usable q qs ok))

module _ (rank : Oriented → ℕ) (Usable : Oriented → Type 0) (size : Oriented → ℕ) (v w : Oriented → ℕ) (same : (q : Oriented) → Usable q → v q ≡ w q) (cap : ℕ) where
  pub first_best_by : (qs : List Oriented) → FirstBest rank Usable size v cap qs → FirstBest rank Usable size w cap qs
  first_best_by qs first =
      let mine = sum_same Usable v w same qs first.fits.usable in
      record {
        fits = first.fits;
        greatest = λ ps fits. omega (arith, first.greatest ps fits, mine, sum_same Usable v w same ps fits.usable);
        earliest = λ ps fits e. first.earliest ps fits (omega (arith, e, mine, sum_same Usable v w same ps fits.usable));
      }

-- ---- there is only one

-- two sequences do not each come before the other; choosing shows the same, for its own proofs alone
not_both : (js ks : List ℕ) → Before js ks → Before ks js → ⊥
not_both [] ks b c = b
not_both (j ∷ js) [] b c = b
not_both (j ∷ js) (k ∷ ks) (inl h) (inl g) = omega arith
not_both (j ∷ js) (k ∷ ks) (inl h) (inr g) = omega (arith, g.0)
not_both (j ∷ js) (k ∷ ks) (inr h) (inl g) = omega (arith, h.0)
not_both (j ∷ js) (k ∷ ks) (inr h) (inr g) = not_both js ks h.1 g.1

module _ (rank : Oriented → ℕ) (Usable : Oriented → Type 0) (size : Oriented → ℕ) (v w : Oriented → ℕ) (same : (q : Oriented) → Usable q → v q ≡ w q) (cap : ℕ) where
  pub first_best_unique : (ps qs : List Oriented) → FirstBest rank Usable size v cap ps → FirstBest rank Usable size w cap qs → ps ≡ qs
  first_best_unique ps qs first other =
      let mine = first_best_by rank Usable size v w same cap ps first in
      let equal : sum w ps ≡ sum w qs = omega (arith, mine.greatest qs other.fits, other.greatest ps mine.fits) in
      ⊎_elim (λ e. e)
      (λ b. ⊎_elim (λ e. sym e) (λ c. absurd (not_both (map rank qs) (map rank ps) b c)) (mine.earliest qs other.fits (sym equal)))
      (other.earliest ps mine.fits equal)
