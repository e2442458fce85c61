-- The recursion that admits one candidate after the other gives the greatest worth of the candidates in front.
use Rattle.std.proofs.Common.{◌≡◌, ℕ, zero, suc, ◌+◌, ◌-◌, ◌<◌, ◌≤◌, Bool, true, false, cond, leb, ◌⊎◌, List, [], ◌∷◌, length, take, sym, refl, ap, ◌∙◌, subst, inl, inr, ⊎_elim, arith}
use lib.Seq.{take-length}
use Rattle.std.proofs.lemmas.List.{length-take-le}
use Rattle.std.proofs.lemmas.Bool.{cases_order, cases_cond, leb-true, leb-false}
use Rattle.choosing.specs.Worth.{Scale, Laws}
use Rattle.choosing.specs.Choice.{size_at, worth_at, total_size, total_worth, Known, Feasible, best, first, most}
use Rattle.choosing.specs.Recursion.{larger, Admission, Commutes}
use Rattle.choosing.specs.declared.Candidate.{Candidate}
use Rattle.choosing.proofs.Choosing.{Sound, right_best}
use Rattle.choosing.proofs.Orders.{not_below, raised_not, larger_left, larger_right}
use Rattle.choosing.proofs.Unique.{is_most}

-- ---- sequences of the first k candidates

-- each position is below k
abbrev Under : ℕ → List ℕ → Type 0
Under k [] = Unit {0}
Under k (j ∷ js) = (j < k) × Under k js

size_front : {W : Type 0} (n : ℕ) (cands : List (Candidate W)) (i : ℕ) → i < n → size_at (take n cands) i ≡ size_at cands i
size_front zero cands i h = absurd (omega arith)
size_front (suc n) [] i h = refl
size_front (suc n) (c ∷ cs) zero h = refl
size_front (suc n) (c ∷ cs) (suc i) h = size_front n cs i (omega arith)

worth_front : {W : Type 0} (s : Scale W) (n : ℕ) (cands : List (Candidate W)) (i : ℕ) → i < n → worth_at s (take n cands) i ≡ worth_at s cands i
worth_front s zero cands i h = absurd (omega arith)
worth_front s (suc n) [] i h = refl
worth_front s (suc n) (c ∷ cs) zero h = refl
worth_front s (suc n) (c ∷ cs) (suc i) h = worth_front s n cs i (omega arith)

-- without candidates there is nothing
most_of_none : {W : Type 0} (s : Scale W) (cap : ℕ) → most s [] cap ≡ s.nothing
unfolding best
most_of_none s zero = refl
most_of_none s (suc n) = refl

module _ {W : Type 0} (s : Scale W) (cands : List (Candidate W)) (k : ℕ) where
  sizes_front : (ks : List ℕ) → Under k ks → total_size (take k cands) ks ≡ total_size cands ks
  sizes_front [] u = refl
  sizes_front (j ∷ js) u = omega (arith, size_front k cands j u.0, sizes_front js u.1)

  worths_front : (ks : List ℕ) → Under k ks → total_worth s (take k cands) ks ≡ total_worth s cands ks
  worths_front [] u = refl
  worths_front (j ∷ js) u = ap (λ w. s.plus w (total_worth s (take k cands) js)) (worth_front s k cands j u.0) ∙ ap (s.plus (worth_at s cands j)) (worths_front js u.1)

  module _ (inside : k ≤ length cands) where
    front_length : length (take k cands) ≡ k
    front_length = length-take-le k cands inside

    known_under : (ks : List ℕ) → Known (take k cands) ks → Under k ks
    known_under [] known = tt
    known_under (j ∷ js) known = (omega (arith, known.0, front_length), known_under js known.1)

    under_known : (ks : List ℕ) → Under k ks → Known (take k cands) ks
    under_known [] u = tt
    under_known (j ∷ js) u = (omega (arith, u.0, front_length), under_known js u.1)

    front_in : (cap : ℕ) (ks : List ℕ) → Under k ks → total_size cands ks ≤ cap → Feasible (take k cands) cap ks
    front_in cap ks u fits = record { known = under_known ks u; within = omega (arith, sizes_front ks u) }

    front_out : (cap : ℕ) (ks : List ℕ) → Feasible (take k cands) cap ks → Under k ks × (total_size cands ks ≤ cap)
    front_out cap ks f = let u = known_under ks f.known in (u, omega (arith, sizes_front ks u, f.within))

    sound_front : Sound s cands → Sound s (take k cands)
    sound_front sound = record {
      room = λ i h. let under : i < k = omega (arith, front_length) in omega (arith, size_front k cands i under, sound.room i (omega (arith, front_length)));
      value = λ i h. let under : i < k = omega (arith, front_length) in subst (λ w. s.less s.nothing w ≡ true) (sym (worth_front s k cands i under)) (sound.value i (omega (arith, front_length)));
    }

under_more : (k : ℕ) (ks : List ℕ) → Under k ks → Under (suc k) ks
under_more k [] u = tt
under_more k (j ∷ js) u = (omega (arith, u.0), under_more k js u.1)

-- ---- a sequence that uses candidate k may begin with it

record Moved {W : Type 0} (s : Scale W) (cands : List (Candidate W)) (k : ℕ) (ks : List ℕ) : Type 0 where
  rest : List ℕ
  under : Under (suc k) rest
  sizes : total_size cands ks ≡ size_at cands k + total_size cands rest
  worths : total_worth s cands ks ≡ s.plus (worth_at s cands k) (total_worth s cands rest)

module _ {W : Type 0} {s : Scale W} (laws : Laws s) (commutes : Commutes s) (cands : List (Candidate W)) (k : ℕ) where
  move : (ks : List ℕ) → Under (suc k) ks → Under k ks ⊎ Moved s cands k ks
  move [] u = inl tt
  move (j ∷ js) u = by (cases_order j k) (move js u.1)
    where
      swapped : (t : W) → s.plus (worth_at s cands j) (s.plus (worth_at s cands k) t) ≡ s.plus (worth_at s cands k) (s.plus (worth_at s cands j) t)
      swapped t =
          sym (laws.assoc (worth_at s cands j) (worth_at s cands k) t)
          ∙ ap (λ w. s.plus w t) (commutes (worth_at s cands j) (worth_at s cands k))
          ∙ laws.assoc (worth_at s cands k) (worth_at s cands j) t

      by : ((j ≡ k) ⊎ ((j < k) ⊎ (k < j))) → Under k js ⊎ Moved s cands k js → Under k (j ∷ js) ⊎ Moved s cands k (j ∷ js)
      by (inl e) later = inr (record { rest = js; under = u.1; sizes = ap (λ n. size_at cands n + total_size cands js) e; worths = ap (λ n. s.plus (worth_at s cands n) (total_worth s cands js)) e })
      by (inr (inl lt)) (inl v) = inl (lt, v)
      by (inr (inl lt)) (inr m) = inr (record { rest = j ∷ m.rest; under = (u.0, m.under); sizes = omega (arith, m.sizes); worths = ap (s.plus (worth_at s cands j)) m.worths ∙ swapped (total_worth s cands m.rest) })
      by (inr (inr gt)) later = absurd (omega (arith, u.0))

-- ---- one candidate more

module _ {W : Type 0} {s : Scale W} (laws : Laws s) (commutes : Commutes s) (cands : List (Candidate W)) (sound : Sound s cands) where
  module _ (k : ℕ) (inside : k < length cands) (x : ℕ) where
    abbrev fewer : List (Candidate W)
    fewer = take k cands

    abbrev more : List (Candidate W)
    more = take (suc k) cands

    -- the room that candidate k leaves
    abbrev left : ℕ
    left = x - size_at cands k

    -- the greatest worth without candidate k, and the greatest that begins with it
    abbrev without : W
    without = most s (take k cands) x

    abbrev taken : W
    taken = s.plus (worth_at s cands k) (most s (take (suc k) cands) (x - size_at cands k))

    sound_fewer : Sound s fewer
    sound_fewer = sound_front s cands k (omega arith) sound

    sound_more : Sound s more
    sound_more = sound_front s cands (suc k) (omega arith) sound

    -- what does without candidate k
    none_without : (w : W) → s.less w without ≡ false → (js : List ℕ) → Under k js → total_size cands js ≤ x → s.less w (total_worth s cands js) ≡ false
    none_without w above js u fits =
        not_below laws (total_worth s cands js) without w
        (subst (λ v. s.less without v ≡ false) (worths_front s cands k js u) ((right_best laws fewer sound_fewer x x (omega arith)).greatest js (front_in s cands k (omega arith) x js u fits)))
        above

    reached_without : Feasible more x (first s fewer x).order × (total_worth s more (first s fewer x).order ≡ without)
    reached_without =
        let r = right_best laws fewer sound_fewer x x (omega arith) in
        let ks = (first s fewer x).order in
        let out = front_out s cands k (omega arith) x ks r.feasible in
        let u = under_more k ks out.0 in
        (front_in s cands (suc k) (omega arith) x ks u out.1, worths_front s cands (suc k) ks u ∙ sym (worths_front s cands k ks out.0) ∙ sym r.worth_is)

    over : x < size_at cands k → without ≡ most s more x
    over large = is_most laws more sound_more x without (first s fewer x).order reached_without.0 reached_without.1 none_more
      where
        none_more : (js : List ℕ) → Feasible more x js → s.less without (total_worth s more js) ≡ false
        none_more js f =
            let out = front_out s cands (suc k) (omega arith) x js f in
            subst (λ v. s.less without v ≡ false) (sym (worths_front s cands (suc k) js out.0))
            (⊎_elim (λ u. none_without without (laws.never without) js u out.1) (λ m. absurd (omega (arith, m.sizes, out.1))) (move laws commutes cands k js out.0))

    fits : size_at cands k ≤ x → larger s without taken ≡ most s more x
    fits small =
        ⊎_elim (λ e. is_most laws more sound_more x (larger s without taken) (k ∷ (first s more left).order) reached_taken.0 (reached_taken.1 ∙ sym e) none_more)
        (λ e. is_most laws more sound_more x (larger s without taken) (first s fewer x).order reached_without.0 (reached_without.1 ∙ sym e) none_more)
        (cases_cond (s.less without taken) taken without (larger s without taken) refl)
      where
        reached_taken : Feasible more x (k ∷ (first s more left).order) × (total_worth s more (k ∷ (first s more left).order) ≡ taken)
        reached_taken =
            let r = right_best laws more sound_more left left (omega arith) in
            let same : size_at more k ≡ size_at cands k = size_front (suc k) cands k (omega arith) in
            let long : length more ≡ suc k = front_length s cands (suc k) (omega arith) in (
              record { known = (omega arith, r.feasible.known); within = omega (arith, r.feasible.within) },
              ap (λ w. s.plus w (total_worth s more (first s more left).order)) (worth_front s (suc k) cands k (omega arith)) ∙ ap (s.plus (worth_at s cands k)) (sym r.worth_is),
            )

        with_it : (js : List ℕ) → total_size cands js ≤ x → Moved s cands k js → s.less (larger s without taken) (total_worth s cands js) ≡ false
        with_it js within m =
            let under_taken : s.less taken (s.plus (worth_at s cands k) (total_worth s cands m.rest)) ≡ false = raised_not laws (worth_at s cands k) (most s more left) (total_worth s cands m.rest) (subst (λ v. s.less (most s more left) v ≡ false) (worths_front s cands (suc k) m.rest m.under) ((right_best laws more sound_more left left (omega arith)).greatest m.rest (front_in s cands (suc k) (omega arith) left m.rest m.under (omega (arith, m.sizes))))) in
            subst (λ v. s.less (larger s without taken) v ≡ false) (sym m.worths)
            (not_below laws (s.plus (worth_at s cands k) (total_worth s cands m.rest)) taken (larger s without taken) under_taken (larger_right laws without taken))

        none_more : (js : List ℕ) → Feasible more x js → s.less (larger s without taken) (total_worth s more js) ≡ false
        none_more js f =
            let out = front_out s cands (suc k) (omega arith) x js f in
            subst (λ v. s.less (larger s without taken) v ≡ false) (sym (worths_front s cands (suc k) js out.0))
            (⊎_elim (λ u. none_without (larger s without taken) (larger_left laws without taken) js u out.1) (with_it js out.1) (move laws commutes cands k js out.0))

  module _ (f : ℕ → ℕ → W) (admission : Admission s cands f) where
    -- the step, where f is right for fewer candidates, and for these at each smaller capacity
    admit_step : (k : ℕ) → k < length cands → (x : ℕ) → ((y : ℕ) → f k y ≡ most s (take k cands) y) → ((y : ℕ) → y < x → f (suc k) y ≡ most s (take (suc k) cands) y) → f (suc k) x ≡ most s (take (suc k) cands) x
    admit_step k inside x before smaller = admission.step k x inside ∙ by (leb (size_at cands k) x) refl
      where
        by : (b : Bool) → leb (size_at cands k) x ≡ b → cond b (larger s (f k x) (s.plus (worth_at s cands k) (f (suc k) (x - size_at cands k)))) (f k x) ≡ most s (take (suc k) cands) x
        by true e =
            let small : size_at cands k ≤ x = leb-true (size_at cands k) x e in
            let one : 1 ≤ size_at cands k = sound.room k inside in
            ap (λ w. larger s w (s.plus (worth_at s cands k) (f (suc k) (x - size_at cands k)))) (before x)
            ∙ ap (λ w. larger s (most s (take k cands) x) (s.plus (worth_at s cands k) w)) (smaller (x - size_at cands k) (omega arith))
            ∙ fits k inside x small
        by false e = before x ∙ over k inside x (leb-false (size_at cands k) x e)

    admit_to : (k : ℕ) → k < length cands → ((y : ℕ) → f k y ≡ most s (take k cands) y) → (n x : ℕ) → x ≤ n → f (suc k) x ≡ most s (take (suc k) cands) x
    admit_to k inside before zero x h = admit_step k inside x before (λ y l. absurd (omega arith))
    admit_to k inside before (suc n) x h = admit_step k inside x before (λ y l. admit_to k inside before n y (omega arith))

    -- f (k, x) is the greatest worth of the first k candidates
    pub admitted : (k : ℕ) → k ≤ length cands → (x : ℕ) → f k x ≡ most s (take k cands) x
    admitted zero h x = admission.start x ∙ sym (most_of_none s x)
    admitted (suc k) h x = admit_to k (omega arith) (λ y. admitted k (omega arith) y) x x (omega arith)

    pub all_admitted : (x : ℕ) → f (length cands) x ≡ most s cands x
    all_admitted x = admitted (length cands) (omega arith) x ∙ ap (λ cs. most s cs x) (take-length cands)
