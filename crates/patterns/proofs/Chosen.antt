-- The strips that the named patterns choose: each can be laid, and together they fit the plate.
use Rattle.std.proofs.Common.{◌≡◌, ℕ, zero, suc, ◌+◌, ◌*◌, ◌/◌, ◌<◌, ◌≤◌, List, [], ◌∷◌, map, length, get_or, replicate, sym, refl, ap, ◌∙◌, suc-mul, zero-mul, div-mul-le_self, arith}
use Rattle.std.specs.List.{AllByRecursion}
use Rattle.std.proofs.ByRecursion.{All-append, All-map}
use Rattle.layout.specs.declared.row.Row.{Row}
use Rattle.layout.specs.Tasks.{Model, WithinLimits}
use Rattle.choosing.specs.Choice.{size_at, worth_at, total_size, total_worth, Known, first, most}
use Rattle.choosing.specs.Plain.{plain}
use Rattle.choosing.specs.declared.Candidate.{Candidate}
use Rattle.choosing.proofs.Choosing.{right_best}
use Rattle.choosing.specs.Numbers.{plain_laws}
use Rattle.patterns.specs.declared.Oriented.{Oriented}
use Rattle.patterns.specs.Numbers.{numbers, no_piece}
use Rattle.patterns.specs.Sequences.{sum}
use Rattle.patterns.specs.Strips.{Strip, by_value, by_along, by_across, no_strip, at, no_wider, no_longer, general_strip, uniform_strip, rows_of_strip, lay}
use Rattle.patterns.specs.Named.{preferred}
use Rattle.patterns.specs.Counting.{Counted}
use Rattle.patterns.proofs.Lists.{all_each, In, all_in, in_all}
use Rattle.patterns.proofs.Numbered.{numbers_counted}
use Rattle.patterns.proofs.Candidates.{Fine, all_sound, all_preferred, in_preferred, all_no_wider, all_no_longer, pieces_fine, uniform_fine, times_is}
use Rattle.patterns.proofs.Worths.{all_sizeable, two_fine}
use Rattle.patterns.proofs.Laying.{Ready}

-- ---- what stands at chosen positions

module _ {A : Type 0} (f : A → Candidate ℕ) (d : A) where
  pub one_at : (xs : List A) (k : ℕ) → k < length (map f xs) → (size_at (map f xs) k ≡ (f (get_or xs k d)).size) × (worth_at plain (map f xs) k ≡ (f (get_or xs k d)).worth)
  one_at [] k h = absurd (omega arith)
  one_at (x ∷ xs) zero h = (refl, refl)
  one_at (x ∷ xs) (suc k) h = one_at xs k (omega arith)

  all_one : (P : A → Type 0) (xs : List A) (k : ℕ) → AllByRecursion P xs → k < length (map f xs) → P (get_or xs k d)
  all_one P [] k ok h = absurd (omega arith)
  all_one P (x ∷ xs) zero ok h = ok.0
  all_one P (x ∷ xs) (suc k) ok h = all_one P xs k ok.1 (omega arith)

  pub record Taken (P : A → Type 0) (xs : List A) (ks : List ℕ) : Type 0 where
    pub each : AllByRecursion P (at d xs ks)
    pub size_is : sum (λ (a : A). (f a).size) (at d xs ks) ≡ total_size (map f xs) ks
    pub worth_is : sum (λ (a : A). (f a).worth) (at d xs ks) ≡ total_worth plain (map f xs) ks

  pub taken_at : (P : A → Type 0) (xs : List A) (ks : List ℕ) → AllByRecursion P xs → Known (map f xs) ks → Taken P xs ks
  taken_at P xs [] ok known = record { each = tt; size_is = refl; worth_is = refl }
  taken_at P xs (k ∷ ks) ok known =
      let rest = taken_at P xs ks ok known.1 in
      let here = one_at xs k known.0 in
      record {
        each = (all_one P xs k ok known.0, rest.each);
        size_is = omega (arith, rest.size_is, here.0);
        worth_is = omega (arith, rest.worth_is, here.1);
      }

  -- the first choice of greatest worth
  pub record Best (P : A → Type 0) (xs : List A) (cap : ℕ) : Type 0 where
    pub each : AllByRecursion P (at d xs (first plain (map f xs) cap).order)
    pub within : sum (λ (a : A). (f a).size) (at d xs (first plain (map f xs) cap).order) ≤ cap
    pub worth_is : sum (λ (a : A). (f a).worth) (at d xs (first plain (map f xs) cap).order) ≡ most plain (map f xs) cap

  pub best : (P : A → Type 0) (xs : List A) (cap : ℕ) → AllByRecursion P xs → AllByRecursion Fine (map f xs) → Best P xs cap
  best P xs cap ok fine =
      let r = right_best plain_laws (map f xs) (all_sound (map f xs) fine) cap cap (omega arith) in
      let t = taken_at P xs (first plain (map f xs) cap).order ok r.feasible.known in
      record { each = t.each; within = omega (arith, t.size_is, r.feasible.within); worth_is = t.worth_is ∙ sym r.worth_is }

-- ---- a number of the same piece

all_replicate : {A : Type 0} (P : A → Type 0) (a : A) → P a → (n : ℕ) → AllByRecursion P (replicate n a)
all_replicate P a p zero = tt
all_replicate P a p (suc n) = (p, all_replicate P a p n)

pub sum_replicate : {A : Type 0} (f : A → ℕ) (a : A) (n : ℕ) → sum f (replicate n a) ≡ n * f a
sum_replicate f a zero = sym (zero-mul (f a))
sum_replicate f a (suc n) = omega (arith, sum_replicate f a n, suc-mul n (f a))

-- the pieces of a strip are of one number
abbrev pub Uniform : Strip ℕ → Type 0
Uniform st = (o : Oriented) × AllByRecursion (λ (q : Oriented). q ≡ o) st.pieces

module _ (m : Model) (ok : WithinLimits m) where
  pub general_ready : (q : Oriented) → In q (numbers m) → Ready m m.length (general_strip by_value m.length (numbers m) q)
  general_ready q i =
      let b = best (by_along by_value) no_piece (λ (o : Oriented). Counted m o × (o.across ≤ q.across)) (no_wider q.across (numbers m)) m.length (all_no_wider (Counted m) q.across (numbers m) (numbers_counted m)) (pieces_fine (numbers m) (all_sizeable m ok) q.across) in
      record { each = b.each; room = b.within; worth_is = b.worth_is; some = fine }
    where
      fine : 1 ≤ (general_strip by_value m.length (numbers m) q).worth
      fine = in_all (λ (o : Oriented). 1 ≤ (general_strip by_value m.length (numbers m) o).worth) (in_preferred i) (unmap (preferred (numbers m)) (two_fine m ok))
        where
          unmap : (os : List Oriented) → AllByRecursion Fine (map by_across (map (general_strip by_value m.length (numbers m)) os)) → AllByRecursion (λ (o : Oriented). 1 ≤ (general_strip by_value m.length (numbers m) o).worth) os
          unmap [] a = tt
          unmap (o ∷ os) a = (a.0.1, unmap os a.1)

  -- the strips of the two-staged pattern
  pub two_chosen : Best by_across (no_strip plain) (Ready m m.length) (map (general_strip by_value m.length (numbers m)) (preferred (numbers m))) m.width
  two_chosen =
      best by_across (no_strip plain) (Ready m m.length) (map (general_strip by_value m.length (numbers m)) (preferred (numbers m))) m.width
      (All-map (Ready m m.length) (general_strip by_value m.length (numbers m)) (preferred (numbers m)) (all_preferred (λ (q : Oriented). Ready m m.length (general_strip by_value m.length (numbers m) q)) (numbers m) (all_in (λ (q : Oriented). Ready m m.length (general_strip by_value m.length (numbers m) q)) (numbers m) general_ready)))
      (two_fine m ok)

  pub uniform_ready : (l : ℕ) (o : Oriented) → Counted m o → Fine (by_across (uniform_strip by_value l o)) → Ready m l (uniform_strip by_value l o) × Uniform (uniform_strip by_value l o)
  uniform_ready l o c fine = (
    record {
      each = all_replicate (λ (q : Oriented). Counted m q × (q.across ≤ o.across)) o (c, omega arith) (l / o.along);
      room = omega (arith, sum_replicate (λ (q : Oriented). q.along) o (l / o.along), div-mul-le_self l o.along);
      worth_is = sum_replicate (λ (q : Oriented). q.value) o (l / o.along) ∙ sym (times_is (l / o.along) o.value);
      some = fine.1;
    },
    (o, all_replicate (λ (q : Oriented). q ≡ o) o refl (l / o.along)),
  )

  -- the strips of a segment of length l
  pub three_chosen : (l : ℕ) → Best by_across (no_strip plain) (λ (st : Strip ℕ). Ready m l st × Uniform st) (map (uniform_strip by_value l) (no_longer l (preferred (numbers m)))) m.width
  three_chosen l =
      best by_across (no_strip plain) (λ (st : Strip ℕ). Ready m l st × Uniform st) (map (uniform_strip by_value l) (no_longer l (preferred (numbers m)))) m.width
      (ready (no_longer l (preferred (numbers m))) (all_no_longer (Counted m) l (preferred (numbers m)) (all_preferred (Counted m) (numbers m) (numbers_counted m))) (uniform_fine l (numbers m) (all_sizeable m ok)))
      (uniform_fine l (numbers m) (all_sizeable m ok))
    where
      ready : (os : List Oriented) → AllByRecursion (λ (o : Oriented). Counted m o × (o.along ≤ l)) os → AllByRecursion Fine (map by_across (map (uniform_strip by_value l) os)) → AllByRecursion (λ (st : Strip ℕ). Ready m l st × Uniform st) (map (uniform_strip by_value l) os)
      ready [] a b = tt
      ready (o ∷ os) a b = (uniform_ready l o a.0.0 b.0, ready os a.1 b.1)

-- ---- the rows of uniform strips

-- the number of which a strip is made
pub kind_of_strip : (sts : List (Strip ℕ)) → AllByRecursion Uniform sts → ℕ → Oriented
kind_of_strip [] u j = no_piece
kind_of_strip (st ∷ sts) u zero = u.0.0
kind_of_strip (st ∷ sts) u (suc j) = kind_of_strip sts u.1 j

-- r stands in the strip that is j above strip n, and is of its number
pub record Belongs (n : ℕ) (sort : ℕ → Oriented) (r : Row) : Type 0 where
  pub above : ℕ
  pub strip : r.strip ≡ n + above
  pub kind : r.kind ≡ (sort above).kind
  pub turned : r.turned ≡ (sort above).turned

pub belong : (g n x y : ℕ) (sts : List (Strip ℕ)) (u : AllByRecursion Uniform sts) → AllByRecursion (Belongs n (kind_of_strip sts u)) (lay g n x y sts)
unfolding kind_of_strip
belong g n x y [] u = tt
belong g n x y (st ∷ sts) u =
    All-append (Belongs n (kind_of_strip (st ∷ sts) u)) (rows_of_strip g n y x st.pieces) (lay g (suc n) x (y + st.across) sts)
    (one x st.pieces u.0.1)
    (all_each (λ r b. record { above = suc b.above; strip = omega (arith, b.strip); kind = b.kind; turned = b.turned }) (lay g (suc n) x (y + st.across) sts) (belong g (suc n) x (y + st.across) sts u.1))
  where
    one : (z : ℕ) (os : List Oriented) → AllByRecursion (λ (q : Oriented). q ≡ u.0.0) os → AllByRecursion (Belongs n (kind_of_strip (st ∷ sts) u)) (rows_of_strip g n y z os)
    one z [] same = tt
    one z (o ∷ os) same = (record { above = 0; strip = omega arith; kind = ap (λ (q : Oriented). q.kind) same.0; turned = ap (λ (q : Oriented). q.turned) same.0 }, one (z + o.along) os same.1)
