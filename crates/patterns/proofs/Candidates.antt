-- The candidates of the choices that the named patterns make: they take room and are worth something; and what the laws of the choice say in numbers.
use Rattle.std.proofs.Common.{◌≡◌, ℕ, zero, suc, ◌+◌, ◌-◌, ◌*◌, ◌/◌, ◌<◌, ◌≤◌, leb, List, [], ◌∷◌, map, length, sym, refl, mul-le-mul_right, suc-mul, le-div_iff_mul-le, zero-mul, arith}
use Rattle.std.specs.List.{AllByRecursion}
use Rattle.std.proofs.lemmas.Bool.{leb-true, le-leb, ltb-false, lt-ltb}
use Rattle.std.proofs.ByRecursion.{All-map}
use Rattle.choosing.specs.Choice.{size_at, worth_at, total_worth, Feasible, most}
use Rattle.choosing.specs.Plain.{plain}
use Rattle.choosing.specs.declared.Candidate.{Candidate}
use Rattle.choosing.proofs.Choosing.{Sound, right_best}
use Rattle.choosing.proofs.Picking.{no_more}
use Rattle.choosing.proofs.Unique.{most_grows}
use Rattle.choosing.specs.Numbers.{plain_laws}
use Rattle.layout.specs.Tasks.{Model, WithinLimits}
use Rattle.rules.specs.Rowwise.{sized_panel}
use Rattle.patterns.specs.declared.Oriented.{Oriented}
use Rattle.patterns.specs.Numbers.{numbers}
use Rattle.patterns.specs.Strips.{Strip, by_value, by_along, by_across, no_wider, no_longer, times, general_strip, uniform_strip}
use Rattle.patterns.specs.Named.{preferred}
use Rattle.patterns.specs.Counting.{Counted, Counts, kind_at}
use Rattle.patterns.proofs.Lists.{all_each, In, here, there, all_in, in_all, in_kept_by, all_tested}
use Rattle.patterns.proofs.Numbered.{numbers_counted}

-- ---- the choice's laws in numbers

abbrev pub Fine : Candidate ℕ → Type 0
Fine c = (1 ≤ c.size) × (1 ≤ c.worth)

pub all_sound : (cands : List (Candidate ℕ)) → AllByRecursion Fine cands → Sound plain cands
all_sound cands ok = record { room = λ k h. (at cands ok k h).0; value = λ k h. lt-ltb 0 (worth_at plain cands k) (at cands ok k h).1 }
  where
    at : (cs : List (Candidate ℕ)) → AllByRecursion Fine cs → (k : ℕ) → k < length cs → (1 ≤ size_at cs k) × (1 ≤ worth_at plain cs k)
    at [] a k h = absurd (omega arith)
    at (c ∷ cs) a zero h = a.0
    at (c ∷ cs) a (suc k) h = at cs a.1 k (omega arith)

module _ (cands : List (Candidate ℕ)) (ok : AllByRecursion Fine cands) where
  pub greatest : (cap : ℕ) (js : List ℕ) → Feasible cands cap js → total_worth plain cands js ≤ most plain cands cap
  greatest cap js f = ltb-false (most plain cands cap) (total_worth plain cands js) ((right_best plain_laws cands (all_sound cands ok) cap cap (omega arith)).greatest js f)

  pub grows : (c cap : ℕ) → c ≤ cap → most plain cands c ≤ most plain cands cap
  grows c cap h = ltb-false (most plain cands cap) (most plain cands c) (most_grows plain_laws cands (all_sound cands ok) c cap h)

  -- a candidate at y, and the best from t on, are worth no more than the best from y on
  pub taken : (w y t k : ℕ) → k < length cands → y + size_at cands k ≤ t → t ≤ w → worth_at plain cands k + most plain cands (w - t) ≤ most plain cands (w - y)
  taken w y t k h low high =
      let fits : size_at cands k ≤ w - y = omega arith in
      omega (
        arith,
        ltb-false (most plain cands (w - y)) (worth_at plain cands k + most plain cands (w - y - size_at cands k)) (no_more plain_laws cands (all_sound cands ok) (w - y) k h fits),
        grows (w - t) (w - y - size_at cands k) (omega arith),
      )

-- a place where an element stands, and the candidate made of it
pub placed : {A : Type 0} (f : A → Candidate ℕ) {a : A} {xs : List A} → In a xs → (k : ℕ) × (k < length (map f xs)) × (size_at (map f xs) k ≡ (f a).size) × (worth_at plain (map f xs) k ≡ (f a).worth)
placed f here = (0, omega arith, refl, refl)
placed f (there i) = let r = placed f i in (suc r.0, omega (arith, r.1), r.2, r.3)

-- ---- the order in which strips are preferred has the same numbers

pub all_preferred : (P : Oriented → Type 0) (os : List Oriented) → AllByRecursion P os → AllByRecursion P (preferred os)
all_preferred P os ok = ok

pub in_preferred : {o : Oriented} {os : List Oriented} → In o os → In o (preferred os)
in_preferred i = i

-- ---- the numbers of a task within the limits

-- a number that counts has the sizes and the value of a lawful kind
pub record Sizeable (o : Oriented) : Type 0 where
  pub along_least : 50 ≤ o.along
  pub across_least : 50 ≤ o.across
  pub value_least : 1 ≤ o.value

pub sizeable : (m : Model) → WithinLimits m → (o : Oriented) → Counted m o → Sizeable o
sizeable m ok o c =
    let g = ok.sides o.kind c.known in
    let z = sized_panel (kind_at m o).panel o.turned g.0.0 g.1.0 in
    record { along_least = omega (arith, z.0, c.along_is); across_least = omega (arith, z.1, c.across_is); value_least = omega (arith, (ok.values o.kind c.known).0, c.value_is) }

-- those that are no wider, and those that are no longer
pub in_no_wider : (h : ℕ) {o : Oriented} {os : List Oriented} → In o os → o.across ≤ h → In o (no_wider h os)
in_no_wider h {o} i le = in_kept_by (λ (q : Oriented). leb q.across h) i (le-leb o.across h le)

pub in_no_longer : (l : ℕ) {o : Oriented} {os : List Oriented} → In o os → o.along ≤ l → In o (no_longer l os)
in_no_longer l {o} i le = in_kept_by (λ (q : Oriented). leb q.along l) i (le-leb o.along l le)

pub all_no_wider : (P : Oriented → Type 0) (h : ℕ) (os : List Oriented) → AllByRecursion P os → AllByRecursion (λ (o : Oriented). P o × (o.across ≤ h)) (no_wider h os)
all_no_wider P h os ok = all_each (λ o z. (z.0, leb-true o.across h z.1)) (no_wider h os) (all_tested (λ (q : Oriented). leb q.across h) P os ok)

pub all_no_longer : (P : Oriented → Type 0) (l : ℕ) (os : List Oriented) → AllByRecursion P os → AllByRecursion (λ (o : Oriented). P o × (o.along ≤ l)) (no_longer l os)
all_no_longer P l os ok = all_each (λ o z. (z.0, leb-true o.along l z.1)) (no_longer l os) (all_tested (λ (q : Oriented). leb q.along l) P os ok)

-- ---- the candidates of the two-staged rule, and of the three-staged one

abbrev pub strip_pieces : List Oriented → ℕ → List (Candidate ℕ)
strip_pieces os h = map (by_along by_value) (no_wider h os)

abbrev pub general_strips : ℕ → List Oriented → List (Candidate ℕ)
general_strips l os = map by_across (map (general_strip by_value l os) (preferred os))

abbrev pub uniform_strips : ℕ → List Oriented → List (Candidate ℕ)
uniform_strips l os = map by_across (map (uniform_strip by_value l) (no_longer l (preferred os)))

pub pieces_fine : (os : List Oriented) → AllByRecursion Sizeable os → (h : ℕ) → AllByRecursion Fine (strip_pieces os h)
pieces_fine os ok h = All-map Fine (by_along by_value) (no_wider h os) (all_each (λ o z. (omega (arith, z.0.along_least), z.0.value_least)) (no_wider h os) (all_no_wider Sizeable h os ok))

-- a number that fits is worth something by itself
pub strips_fine : (l : ℕ) (os : List Oriented) → AllByRecursion Sizeable os → AllByRecursion (λ (o : Oriented). o.along ≤ l) os → AllByRecursion Fine (general_strips l os)
strips_fine l os ok fit =
    All-map Fine by_across (map (general_strip by_value l os) (preferred os)) (All-map (λ (s : Strip ℕ). Fine (by_across s)) (general_strip by_value l os) (preferred os) (all_preferred (λ (o : Oriented). Fine (by_across (general_strip by_value l os o))) os (all_in (λ (o : Oriented). Fine (by_across (general_strip by_value l os o))) os one)))
  where
    one : (o : Oriented) → In o os → Fine (by_across (general_strip by_value l os o))
    one o i =
        let z = in_all Sizeable i ok in
        let f = in_all (λ (q : Oriented). q.along ≤ l) i fit in
        let k = placed (by_along by_value) (in_no_wider o.across i (omega arith)) in
        let fits : size_at (strip_pieces os o.across) k.0 ≤ l = omega (arith, k.2) in (
          omega (arith, z.across_least),
          omega (arith, z.value_least, k.3, greatest (strip_pieces os o.across) (pieces_fine os ok o.across) l (k.0 ∷ []) (record { known = (k.1, tt); within = omega arith })),
        )

pub times_is : (n v : ℕ) → times plain n v ≡ n * v
times_is zero v = sym (zero-mul v)
times_is (suc n) v = omega (arith, times_is n v, suc-mul n v)

pub uniform_fine : (l : ℕ) (os : List Oriented) → AllByRecursion Sizeable os → AllByRecursion Fine (uniform_strips l os)
uniform_fine l os ok =
    All-map Fine by_across (map (uniform_strip by_value l) (no_longer l (preferred os))) (All-map (λ (s : Strip ℕ). Fine (by_across s)) (uniform_strip by_value l) (no_longer l (preferred os))
    (all_each (λ o z. (omega (arith, z.0.across_least), worthy o z.0 z.1)) (no_longer l (preferred os)) (all_no_longer Sizeable l (preferred os) (all_preferred Sizeable os ok))))
  where
    worthy : (o : Oriented) → Sizeable o → o.along ≤ l → 1 ≤ times plain (l / o.along) o.value
    worthy o z h =
        let some : 1 ≤ l / o.along = (le-div_iff_mul-le {k = o.along} {x = 1} {y = l} (omega (arith, z.along_least))).1 (omega arith) in
        omega (arith, times_is (l / o.along) o.value, mul-le-mul_right o.value some, z.value_least)

-- the numbers of a task within the limits, by their sizes alone
pub numbers_counts : (m : Model) → WithinLimits m → AllByRecursion (Counts m.length m.width) (numbers m)
numbers_counts m ok =
    all_each (λ o c. let z = sizeable m ok o c in record { along_least = z.along_least; across_least = z.across_least; value_least = z.value_least; value_most = omega (arith, (ok.values o.kind c.known).1, c.value_is); along_most = c.along_most; across_most = c.across_most })
    (numbers m) (numbers_counted m)
