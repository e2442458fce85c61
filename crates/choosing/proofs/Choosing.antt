-- The computed choice is the first of the feasible sequences of greatest worth.
use Rattle.std.proofs.Common.{◌≡◌, ℕ, zero, suc, ◌+◌, ◌-◌, ◌<◌, ◌≤◌, Bool, true, false, cond, leb, ◌⊎◌, List, [], ◌∷◌, length, sym, refl, ap, ◌∙◌, subst, inl, inr, ⊎_elim, arith}
use Rattle.std.proofs.lemmas.Bool.{cases_order, both_ways, leb-true, leb-false, lt-leb, cond-false}
use Rattle.choosing.specs.Worth.{Scale, Laws}
use Rattle.choosing.specs.Choice.{size_at, worth_at, total_worth, Feasible, Before, First, Choice, empty, taking, prefer, choose, best, first}
use Rattle.choosing.specs.declared.Candidate.{Candidate}
use Rattle.choosing.proofs.Orders.{one_way, not_below, raised_not, same_part, sum_above}

-- what candidates have to be: each takes room, and is worth more than nothing
pub record Sound {W : Type 0} (s : Scale W) (cands : List (Candidate W)) : Type 0 where
  pub room : (k : ℕ) → k < length cands → 1 ≤ size_at cands k
  pub value : (k : ℕ) → k < length cands → s.less s.nothing (worth_at s cands k) ≡ true

-- the candidate at j, among those from k on, in front of the best of the rest
abbrev pub led : {W : Type 0} → Scale W → (ℕ → Choice W) → ℕ → ℕ → List (Candidate W) → ℕ → Choice W
led s rest cap k cs j = record { worth = s.plus (worth_at s cs j) (rest (cap - size_at cs j)).worth; order = (k + j) ∷ (rest (cap - size_at cs j)).order }

abbrev pub offer : {W : Type 0} → Scale W → (ℕ → Choice W) → ℕ → List (Candidate W) → ℕ → W
offer s rest cap cs j = s.plus (worth_at s cs j) (rest (cap - size_at cs j)).worth

-- r begins with the candidate at j, which is the first of those with the greatest offer
pub record Leads {W : Type 0} (s : Scale W) (rest : ℕ → Choice W) (cap k : ℕ) (cs : List (Candidate W)) (r : Choice W) (j : ℕ) : Type 0 where
  pub known : j < length cs
  pub fits : size_at cs j ≤ cap
  pub is : r ≡ led s rest cap k cs j
  pub greatest : (i : ℕ) → i < length cs → size_at cs i ≤ cap → s.less (offer s rest cap cs j) (offer s rest cap cs i) ≡ false
  pub earliest : (i : ℕ) → i < j → size_at cs i ≤ cap → s.less (offer s rest cap cs i) (offer s rest cap cs j) ≡ true

pub record NothingFits {W : Type 0} (s : Scale W) (cap : ℕ) (cs : List (Candidate W)) (r : Choice W) : Type 0 where
  pub none : (i : ℕ) → i < length cs → size_at cs i ≤ cap → ⊥
  pub is : r ≡ empty s

abbrev pub Chosen : {W : Type 0} → Scale W → (ℕ → Choice W) → ℕ → ℕ → List (Candidate W) → Choice W → Type 0
Chosen s rest cap k cs r = NothingFits s cap cs r ⊎ ((j : ℕ) × Leads s rest cap k cs r j)

module _ {W : Type 0} {s : Scale W} (laws : Laws s) (rest : ℕ → Choice W) (cap : ℕ) where
  -- one candidate more in front, which is passed over
  skipped : (k : ℕ) (c : Candidate W) (cs : List (Candidate W)) (r : Choice W) → (c.size ≤ cap → (j : ℕ) → Leads s rest cap (suc k) cs r j → s.less (offer s rest cap (c ∷ cs) 0) (offer s rest cap cs j) ≡ true) → (c.size ≤ cap → NothingFits s cap cs r → ⊥) → Chosen s rest cap (suc k) cs r → Chosen s rest cap k (c ∷ cs) r
  skipped k c cs r less_than alone (inl n) = inl (record { none = none; is = n.is })
    where
      none : (i : ℕ) → i < length (c ∷ cs) → size_at (c ∷ cs) i ≤ cap → ⊥
      none zero h f = alone f n
      none (suc i) h f = n.none i (omega arith) f
  skipped k c cs r less_than alone (inr (j, l)) =
      inr (suc j, record { known = omega (arith, l.known); fits = l.fits; is = is; greatest = greatest; earliest = earliest })
    where
      is : r ≡ led s rest cap k (c ∷ cs) (suc j)
      is = l.is ∙ (let e : suc k + j ≡ k + suc j = omega arith in ap (λ n. record { worth = s.plus (worth_at s cs j) (rest (cap - size_at cs j)).worth; order = n ∷ (rest (cap - size_at cs j)).order }) e)

      greatest : (i : ℕ) → i < length (c ∷ cs) → size_at (c ∷ cs) i ≤ cap → s.less (offer s rest cap cs j) (offer s rest cap (c ∷ cs) i) ≡ false
      greatest zero h f = one_way laws (offer s rest cap (c ∷ cs) 0) (offer s rest cap cs j) (less_than f j l)
      greatest (suc i) h f = l.greatest i (omega arith) f

      earliest : (i : ℕ) → i < suc j → size_at (c ∷ cs) i ≤ cap → s.less (offer s rest cap (c ∷ cs) i) (offer s rest cap cs j) ≡ true
      earliest zero h f = less_than f j l
      earliest (suc i) h f = l.earliest i (omega arith) f

  -- one candidate more in front, which is taken: nothing later is worth more
  taken : (k : ℕ) (c : Candidate W) (cs : List (Candidate W)) (r : Choice W) → c.size ≤ cap → s.less (offer s rest cap (c ∷ cs) 0) r.worth ≡ false → Chosen s rest cap (suc k) cs r → Leads s rest cap k (c ∷ cs) (taking s k c (rest (cap - c.size))) 0
  taken k c cs r f no_less later =
      record { known = omega arith; fits = f; is = is; greatest = greatest; earliest = λ i h _. absurd (omega arith) }
    where
      is : taking s k c (rest (cap - c.size)) ≡ led s rest cap k (c ∷ cs) 0
      is = let e : k ≡ k + 0 = omega arith in ap (λ n. record { worth = s.plus c.worth (rest (cap - c.size)).worth; order = n ∷ (rest (cap - c.size)).order }) e

      greatest : (i : ℕ) → i < length (c ∷ cs) → size_at (c ∷ cs) i ≤ cap → s.less (offer s rest cap (c ∷ cs) 0) (offer s rest cap (c ∷ cs) i) ≡ false
      greatest zero h g = laws.never (offer s rest cap (c ∷ cs) 0)
      greatest (suc i) h g =
          ⊎_elim (λ n. absurd (n.none i (omega arith) g))
          (λ x. not_below laws (offer s rest cap cs i) (offer s rest cap cs x.0) (offer s rest cap (c ∷ cs) 0) (x.1.greatest i (omega arith) g) (subst (λ w. s.less (offer s rest cap (c ∷ cs) 0) w ≡ false) (ap (λ z. z.worth) x.1.is) no_less))
          later

  -- choose finds the first of the candidates with the greatest offer
  pub chosen : (k : ℕ) (cs : List (Candidate W)) → ((i : ℕ) → i < length cs → size_at cs i ≤ cap → s.less (offer s rest cap cs i) s.nothing ≡ false) → Chosen s rest cap k cs (choose s rest cap k cs)
  chosen k [] worthy = inl (record { none = λ i h _. absurd (omega arith); is = refl })
  chosen k (c ∷ cs) worthy =
      let later = chosen (suc k) cs (λ i h f. worthy (suc i) (omega arith) f) in
      by_room later (leb c.size cap) refl
    where
      r : Choice W
      r = choose s rest cap (suc k) cs

      mine : Choice W
      mine = taking s k c (rest (cap - c.size))

      by_worth : Chosen s rest cap (suc k) cs r → c.size ≤ cap → (b : Bool) → s.less mine.worth r.worth ≡ b → Chosen s rest cap k (c ∷ cs) (cond b r mine)
      by_worth later f true e =
          skipped k c cs r
          (λ _ j l. subst (λ w. s.less mine.worth w ≡ true) (ap (λ z. z.worth) l.is) e)
          (λ _ n. both_ways (s.less mine.worth s.nothing) (worthy 0 (omega arith) f) (subst (λ w. s.less mine.worth w ≡ true) (ap (λ z. z.worth) n.is) e))
          later
      by_worth later f false e = inr (0, taken k c cs r f e later)

      by_room : Chosen s rest cap (suc k) cs r → (b : Bool) → leb c.size cap ≡ b → Chosen s rest cap k (c ∷ cs) (cond b (prefer s mine r) r)
      by_room later true e = by_worth later (leb-true c.size cap e) (s.less mine.worth r.worth) refl
      by_room later false e =
          let over : cap < c.size = leb-false c.size cap e in
          skipped k c cs r (λ f. absurd (omega arith)) (λ f. absurd (omega arith)) later

-- what is to be shown of the computed choice
pub record Right {W : Type 0} (s : Scale W) (cands : List (Candidate W)) (cap : ℕ) (r : Choice W) : Type 0 where
  pub feasible : Feasible cands cap r.order
  pub worth_is : r.worth ≡ total_worth s cands r.order
  pub greatest : (js : List ℕ) → Feasible cands cap js → s.less r.worth (total_worth s cands js) ≡ false
  pub earliest : (js : List ℕ) → Feasible cands cap js → total_worth s cands js ≡ r.worth → (js ≡ r.order) ⊎ Before r.order js

module _ {W : Type 0} {s : Scale W} (laws : Laws s) (cands : List (Candidate W)) (sound : Sound s cands) where
  -- the tail of a feasible sequence is feasible in what room is left
  tail : (cap k : ℕ) (ks : List ℕ) → Feasible cands cap (k ∷ ks) → Feasible cands (cap - size_at cands k) ks
  tail cap k ks f = record { known = f.known.1; within = omega (arith, f.within) }

  nothing_least : (cap : ℕ) (r : Choice W) → Right s cands cap r → s.less r.worth s.nothing ≡ false
  nothing_least cap r ok = ok.greatest [] (record { known = tt; within = omega arith })

  -- nothing fits: the empty sequence is the only one
  right_empty : (cap : ℕ) → ((i : ℕ) → i < length cands → size_at cands i ≤ cap → ⊥) → Right s cands cap (empty s)
  right_empty cap none =
      record { feasible = record { known = tt; within = omega arith }; worth_is = refl; greatest = greatest; earliest = earliest }
    where
      greatest : (js : List ℕ) → Feasible cands cap js → s.less s.nothing (total_worth s cands js) ≡ false
      greatest [] f = laws.never s.nothing
      greatest (k ∷ js) f = absurd (none k f.known.0 (omega (arith, f.within)))

      earliest : (js : List ℕ) → Feasible cands cap js → total_worth s cands js ≡ s.nothing → (js ≡ []) ⊎ Before [] js
      earliest [] f e = inl refl
      earliest (k ∷ js) f e = absurd (none k f.known.0 (omega (arith, f.within)))

  -- one candidate and what is right in the room that it leaves
  right_led : (rest : ℕ → Choice W) (cap j : ℕ) → ((k : ℕ) → k < length cands → size_at cands k ≤ cap → Right s cands (cap - size_at cands k) (rest (cap - size_at cands k))) → (r : Choice W) → Leads s rest cap 0 cands r j → Right s cands cap (led s rest cap 0 cands j)
  right_led rest cap j sub r l =
      record { feasible = feasible; worth_is = worth_is; greatest = greatest; earliest = earliest }
    where
      this : Right s cands (cap - size_at cands j) (rest (cap - size_at cands j))
      this = sub j l.known l.fits

      zero_plus : 0 + j ≡ j
      zero_plus = omega arith

      feasible : Feasible cands cap ((0 + j) ∷ (rest (cap - size_at cands j)).order)
      feasible =
          subst (λ n. Feasible cands cap (n ∷ (rest (cap - size_at cands j)).order)) (sym zero_plus)
          (record { known = (l.known, this.feasible.known); within = omega (arith, this.feasible.within, l.fits) })

      worth_is : offer s rest cap cands j ≡ total_worth s cands ((0 + j) ∷ (rest (cap - size_at cands j)).order)
      worth_is =
          subst (λ n. offer s rest cap cands j ≡ total_worth s cands (n ∷ (rest (cap - size_at cands j)).order)) (sym zero_plus)
          (ap (λ w. s.plus (worth_at s cands j) w) this.worth_is)

      -- what begins with k is worth no more than what k offers
      under : (k : ℕ) (js : List ℕ) → Feasible cands cap (k ∷ js) → s.less (offer s rest cap cands k) (total_worth s cands (k ∷ js)) ≡ false
      under k js f = raised_not laws (worth_at s cands k) (rest (cap - size_at cands k)).worth (total_worth s cands js) ((sub k f.known.0 (omega (arith, f.within))).greatest js (tail cap k js f))

      above_nothing : s.less s.nothing (offer s rest cap cands j) ≡ true
      above_nothing = sum_above laws (worth_at s cands j) (rest (cap - size_at cands j)).worth (sound.value j l.known) (nothing_least (cap - size_at cands j) (rest (cap - size_at cands j)) this)

      greatest : (js : List ℕ) → Feasible cands cap js → s.less (offer s rest cap cands j) (total_worth s cands js) ≡ false
      greatest [] f = one_way laws s.nothing (offer s rest cap cands j) above_nothing
      greatest (k ∷ js) f = not_below laws (total_worth s cands (k ∷ js)) (offer s rest cap cands k) (offer s rest cap cands j) (under k js f) (l.greatest k f.known.0 (omega (arith, f.within)))

      -- the same worth: what k offers is the greatest, so j comes no later than k
      follow : (k : ℕ) (js : List ℕ) → Feasible cands cap (k ∷ js) → total_worth s cands (k ∷ js) ≡ offer s rest cap cands j → ((j ≡ k) ⊎ ((j < k) ⊎ (k < j))) → ((k ∷ js) ≡ (j ∷ (rest (cap - size_at cands j)).order)) ⊎ Before (j ∷ (rest (cap - size_at cands j)).order) (k ∷ js)
      follow k js f e (inr (inr lt)) = absurd (both_ways (s.less (offer s rest cap cands k) (offer s rest cap cands j)) (subst (λ w. s.less (offer s rest cap cands k) w ≡ false) e (under k js f)) (l.earliest k lt (omega (arith, f.within))))
      follow k js f e (inr (inl lt)) = inr (inl lt)
      follow k js f e (inl same) =
          let part : total_worth s cands js ≡ (rest (cap - size_at cands j)).worth = same_part laws (worth_at s cands j) (total_worth s cands js) (rest (cap - size_at cands j)).worth (subst (λ n. s.plus (worth_at s cands n) (total_worth s cands js) ≡ offer s rest cap cands j) (sym same) e) in
          ⊎_elim (λ q. inl (subst (λ n. (n ∷ js) ≡ (j ∷ (rest (cap - size_at cands j)).order)) same (ap (λ t. j ∷ t) q))) (λ b. inr (inr (same, b)))
          (this.earliest js (subst (λ n. Feasible cands (cap - size_at cands n) js) (sym same) (tail cap k js f)) part)

      earliest : (js : List ℕ) → Feasible cands cap js → total_worth s cands js ≡ offer s rest cap cands j → (js ≡ ((0 + j) ∷ (rest (cap - size_at cands j)).order)) ⊎ Before ((0 + j) ∷ (rest (cap - size_at cands j)).order) js
      earliest [] f e = absurd (both_ways (s.less s.nothing s.nothing) (laws.never s.nothing) (subst (λ w. s.less s.nothing w ≡ true) (sym e) above_nothing))
      earliest (k ∷ js) f e =
          subst (λ n. ((k ∷ js) ≡ (n ∷ (rest (cap - size_at cands j)).order)) ⊎ Before (n ∷ (rest (cap - size_at cands j)).order) (k ∷ js)) (sym zero_plus)
          (follow k js f e (cases_order j k))

  -- whatever is right for smaller capacities, choose is right for this one
  right_choose : (rest : ℕ → Choice W) (cap : ℕ) → ((c : ℕ) → c < cap → Right s cands c (rest c)) → Right s cands cap (choose s rest cap 0 cands)
  right_choose rest cap smaller =
      ⊎_elim (λ n. subst (Right s cands cap) (sym n.is) (right_empty cap n.none))
      (λ x. subst (Right s cands cap) (sym x.1.is) (right_led rest cap x.0 sub (choose s rest cap 0 cands) x.1))
      (chosen laws rest cap 0 cands worthy)
    where
      sub : (k : ℕ) → k < length cands → size_at cands k ≤ cap → Right s cands (cap - size_at cands k) (rest (cap - size_at cands k))
      sub k h f = smaller (cap - size_at cands k) (omega (arith, sound.room k h))

      worthy : (k : ℕ) → k < length cands → size_at cands k ≤ cap → s.less (offer s rest cap cands k) s.nothing ≡ false
      worthy k h f =
          one_way laws s.nothing (offer s rest cap cands k)
          (sum_above laws (worth_at s cands k) (rest (cap - size_at cands k)).worth (sound.value k h) (nothing_least (cap - size_at cands k) (rest (cap - size_at cands k)) (sub k h f)))

  pub right_best : (n cap : ℕ) → cap ≤ n → Right s cands cap (best s cands n cap)
  unfolding best
  right_best zero cap h = right_empty cap (λ i k f. absurd (omega (arith, sound.room i k)))
  right_best (suc n) cap h = right_choose (λ c. best s cands n c) cap (λ c l. right_best n c (omega arith))

  -- the computed choice is the first of the feasible sequences of greatest worth
  pub first_is_first : (cap : ℕ) → First s cands cap (first s cands cap).order
  first_is_first cap =
      let r = right_best cap cap (omega arith) in
      let e = r.worth_is in
      record {
        feasible = r.feasible;
        greatest = λ js f. subst (λ w. s.less w (total_worth s cands js) ≡ false) e (r.greatest js f);
        earliest = λ js f same. r.earliest js f (same ∙ sym e);
      }

  pub most_is_total : (cap : ℕ) → (first s cands cap).worth ≡ total_worth s cands (first s cands cap).order
  most_is_total cap = (right_best cap cap (omega arith)).worth_is

-- ---- how the choice at one capacity comes from those at smaller ones

-- choose looks only at smaller capacities
choose_same : {W : Type 0} (s : Scale W) (r₁ r₂ : ℕ → Choice W) (cap k : ℕ) (cs : List (Candidate W)) → ((i : ℕ) → i < length cs → 1 ≤ size_at cs i) → ((c : ℕ) → c < cap → r₁ c ≡ r₂ c) → choose s r₁ cap k cs ≡ choose s r₂ cap k cs
choose_same s r₁ r₂ cap k [] room same = refl
choose_same {W} s r₁ r₂ cap k (c ∷ cs) room same =
    by_room (choose_same s r₁ r₂ cap (suc k) cs (λ i h. room (suc i) (omega arith)) same) (leb c.size cap) refl
  where
    by_room : choose s r₁ cap (suc k) cs ≡ choose s r₂ cap (suc k) cs → (b : Bool) → leb c.size cap ≡ b → cond b (prefer s (taking s k c (r₁ (cap - c.size))) (choose s r₁ cap (suc k) cs)) (choose s r₁ cap (suc k) cs) ≡ cond b (prefer s (taking s k c (r₂ (cap - c.size))) (choose s r₂ cap (suc k) cs)) (choose s r₂ cap (suc k) cs)
    by_room later true e =
        let f : c.size ≤ cap = leb-true c.size cap e in
        let one : 1 ≤ c.size = room 0 (omega arith) in
        let lower : cap - c.size < cap = omega arith in
        ap (λ x. prefer s (taking s k c x) (choose s r₁ cap (suc k) cs)) (same (cap - c.size) lower) ∙ ap (λ y. prefer s (taking s k c (r₂ (cap - c.size))) y) later
    by_room later false e = later

-- where nothing fits, choose has nothing
choose_none : {W : Type 0} (s : Scale W) (rest : ℕ → Choice W) (cap k : ℕ) (cs : List (Candidate W)) → ((i : ℕ) → i < length cs → cap < size_at cs i) → choose s rest cap k cs ≡ empty s
choose_none s rest cap k [] over = refl
choose_none s rest cap k (c ∷ cs) over =
    cond-false (leb c.size cap) (prefer s (taking s k c (rest (cap - c.size))) (choose s rest cap (suc k) cs)) (choose s rest cap (suc k) cs) (lt-leb c.size cap (over 0 (omega arith))) ∙ choose_none s rest cap (suc k) cs (λ i h. over (suc i) (omega arith))

module _ {W : Type 0} (s : Scale W) (cands : List (Candidate W)) (room : (i : ℕ) → i < length cands → 1 ≤ size_at cands i) where
  -- how many candidates may be taken does not matter once there is no room for more
  best_same : (m n cap : ℕ) → cap ≤ m → cap ≤ n → best s cands m cap ≡ best s cands n cap
  unfolding best
  best_same zero zero cap h g = refl
  best_same zero (suc n) cap h g = sym (choose_none s (λ c. best s cands n c) cap 0 cands (λ i l. omega (arith, room i l)))
  best_same (suc m) zero cap h g = choose_none s (λ c. best s cands m c) cap 0 cands (λ i l. omega (arith, room i l))
  best_same (suc m) (suc n) cap h g = choose_same s (λ c. best s cands m c) (λ c. best s cands n c) cap 0 cands room (λ c l. best_same m n c (omega arith) (omega arith))

  opened : (n : ℕ) → best s cands (suc n) n ≡ choose s (first s cands) n 0 cands
  unfolding best
  opened n = choose_same s (λ c. best s cands n c) (first s cands) n 0 cands room (λ c l. best_same n c c (omega arith) (omega arith))

  -- the recursion that a table is filled by
  pub first_step : (cap : ℕ) → first s cands cap ≡ choose s (first s cands) cap 0 cands
  first_step cap = best_same cap (suc cap) cap (omega arith) (omega arith) ∙ opened cap

-- the choice is empty, or begins with the first of the candidates with the greatest offer
pub chosen_first : {W : Type 0} {s : Scale W} (laws : Laws s) (cands : List (Candidate W)) (sound : Sound s cands) (cap : ℕ) → Chosen s (first s cands) cap 0 cands (first s cands cap)
chosen_first {W} {s} laws cands sound cap =
    subst (Chosen s (first s cands) cap 0 cands) (sym (first_step s cands sound.room cap)) (chosen laws (first s cands) cap 0 cands worthy)
  where
    worthy : (k : ℕ) → k < length cands → size_at cands k ≤ cap → s.less (offer s (first s cands) cap cands k) s.nothing ≡ false
    worthy k h f =
        let left : ℕ = cap - size_at cands k in
        one_way laws s.nothing (offer s (first s cands) cap cands k)
        (sum_above laws (worth_at s cands k) (first s cands left).worth (sound.value k h) (nothing_least laws cands sound left (first s cands left) (right_best laws cands sound left left (omega arith))))

-- the greatest worth is no less than nothing
pub most_least : {W : Type 0} {s : Scale W} (laws : Laws s) (cands : List (Candidate W)) (sound : Sound s cands) (cap : ℕ) → s.less (first s cands cap).worth s.nothing ≡ false
most_least {W} {s} laws cands sound cap = nothing_least laws cands sound cap (first s cands cap) (right_best laws cands sound cap cap (omega arith))
