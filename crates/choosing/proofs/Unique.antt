-- There is one first sequence, and it depends only on what is feasible.
use Rattle.std.proofs.Common.{◌≡◌, ℕ, zero, suc, ◌-◌, ◌<◌, ◌≤◌, Bool, true, false, cond, leb, List, [], ◌∷◌, length, sym, refl, ap, ◌∙◌, subst, inl, inr, ⊎_elim, arith}
use Rattle.std.proofs.lemmas.Bool.{leb-true, leb-false}
use Rattle.choosing.specs.Worth.{Scale, Laws}
use Rattle.choosing.specs.Choice.{size_at, total_worth, Feasible, Before, First, choose, best, first, most}
use Rattle.choosing.specs.Recursion.{larger, best_offer, Recursion}
use Rattle.choosing.specs.declared.Candidate.{Candidate}
use Rattle.choosing.proofs.Choosing.{Sound, first_is_first, first_step, right_best}
use Rattle.choosing.proofs.Filling.{worth_over, worth_fits}
use Rattle.choosing.proofs.Orders.{larger_right_is}

-- two sequences do not each come before the other
pub not_both : (js ks : List ℕ) → Before js ks → Before ks js → ⊥
not_both [] ks b c = b
not_both (j ∷ js) [] b c = b
not_both (j ∷ js) (k ∷ ks) (inl h) (inl g) = omega arith
not_both (j ∷ js) (k ∷ ks) (inl h) (inr g) = omega (arith, g.0)
not_both (j ∷ js) (k ∷ ks) (inr h) (inl g) = omega (arith, h.0)
not_both (j ∷ js) (k ∷ ks) (inr h) (inr g) = not_both js ks h.1 g.1

module _ {W : Type 0} {s : Scale W} (laws : Laws s) (cands : List (Candidate W)) where
  -- one sequence is first at two capacities where the same sequences are feasible
  pub first_unique : (cap cap' : ℕ) (js ks : List ℕ) → First s cands cap js → First s cands cap' ks → Feasible cands cap' js → Feasible cands cap ks → js ≡ ks
  first_unique cap cap' js ks f g in' inn =
      let same : total_worth s cands js ≡ total_worth s cands ks = laws.total (total_worth s cands js) (total_worth s cands ks) (f.greatest ks inn) (g.greatest js in') in
      ⊎_elim (λ e. e) (λ b. ⊎_elim (λ e. sym e) (λ c. absurd (not_both ks js b c)) (f.earliest ks inn (sym same))) (g.earliest js in' same)

  module _ (sound : Sound s cands) where
    -- whoever finds a first sequence has found the computed one
    pub is_first : (cap : ℕ) (ks : List ℕ) → First s cands cap ks → ks ≡ (first s cands cap).order
    is_first cap ks f = first_unique cap cap ks (first s cands cap).order f (first_is_first laws cands sound cap) f.feasible (first_is_first laws cands sound cap).feasible

    -- what one feasible sequence is worth, where none is worth more, is the greatest worth
    pub is_most : (cap : ℕ) (w : W) (ks : List ℕ) → Feasible cands cap ks → total_worth s cands ks ≡ w → ((js : List ℕ) → Feasible cands cap js → s.less w (total_worth s cands js) ≡ false) → w ≡ most s cands cap
    is_most cap w ks feasible reached NoneMore =
        let r = right_best laws cands sound cap cap (omega arith) in
        laws.total w (most s cands cap)
        (subst (λ v. s.less w v ≡ false) (sym r.worth_is) (NoneMore (first s cands cap).order r.feasible))
        (subst (λ v. s.less (most s cands cap) v ≡ false) reached (r.greatest ks feasible))

    -- more room is worth no less
    pub most_grows : (c cap : ℕ) → c ≤ cap → s.less (most s cands cap) (most s cands c) ≡ false
    most_grows c cap h =
        let r = right_best laws cands sound c c (omega arith) in
        subst (λ w. s.less (most s cands cap) w ≡ false) (sym r.worth_is)
        ((right_best laws cands sound cap cap (omega arith)).greatest (first s cands c).order (record { known = r.feasible.known; within = omega (arith, r.feasible.within) }))

    -- ---- the recursion with the capacity one less

    offers : (F : ℕ → W) (cap k : ℕ) (cs : List (Candidate W)) → ((i : ℕ) → i < length cs → 1 ≤ size_at cs i) → ((c : ℕ) → c < cap → F c ≡ most s cands c) → best_offer s F cap cs ≡ (choose s (first s cands) cap k cs).worth
    offers F cap k [] room same = refl
    offers F cap k (c ∷ cs) room same = by (offers F cap (suc k) cs (λ i h. room (suc i) (omega arith)) same) (leb c.size cap) refl
      where
        by : best_offer s F cap cs ≡ (choose s (first s cands) cap (suc k) cs).worth → (b : Bool) → leb c.size cap ≡ b → cond b (larger s (s.plus c.worth (F (cap - c.size))) (best_offer s F cap cs)) (best_offer s F cap cs) ≡ (choose s (first s cands) cap k (c ∷ cs)).worth
        by later true e =
            let fits : c.size ≤ cap = leb-true c.size cap e in
            let one : 1 ≤ c.size = room 0 (omega arith) in
            ap (λ w. larger s (s.plus c.worth w) (best_offer s F cap cs)) (same (cap - c.size) (omega arith)) ∙ ap (larger s (s.plus c.worth (most s cands (cap - c.size)))) later ∙ sym (worth_fits s (first s cands) cap k c cs fits)
        by later false e = later ∙ sym (worth_over s (first s cands) cap k c cs (leb-false c.size cap e))

    at_none : most s cands 0 ≡ s.nothing
    unfolding best
    at_none = refl

    -- the step, where F is the greatest worth at each smaller capacity
    recursion_step : (F : ℕ → W) (y : ℕ) → Recursion s cands F → ((c : ℕ) → c < suc y → F c ≡ most s cands c) → F (suc y) ≡ most s cands (suc y)
    recursion_step F y r same =
        r.step y
        ∙ ap (λ w. larger s w (best_offer s F (suc y) cands)) (same y (omega arith))
        ∙ ap (larger s (most s cands y)) (offers F (suc y) 0 cands sound.room same ∙ sym (ap (λ c. c.worth) (first_step s cands sound.room (suc y))))
        ∙ larger_right_is laws (most s cands y) (most s cands (suc y)) (most_grows y (suc y) (omega arith))

    recursion_to : (F : ℕ → W) → Recursion s cands F → (n y : ℕ) → y ≤ n → F y ≡ most s cands y
    recursion_to F r zero zero h = r.start ∙ sym at_none
    recursion_to F r zero (suc y) h = absurd (omega arith)
    recursion_to F r (suc n) zero h = r.start ∙ sym at_none
    recursion_to F r (suc n) (suc y) h = recursion_step F y r (λ c l. recursion_to F r n c (omega arith))

    pub recursion : (F : ℕ → W) → Recursion s cands F → (y : ℕ) → F y ≡ most s cands y
    recursion F r y = recursion_to F r y y (omega arith)
