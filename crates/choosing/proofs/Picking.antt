-- Which candidate the choice begins with.
use Rattle.std.proofs.Common.{◌≡◌, ℕ, ◌+◌, ◌-◌, ◌<◌, ◌≤◌, true, false, List, [], ◌∷◌, length, Option, MatchOption, slice_get, sym, ap, ◌∙◌, subst, ⊎_elim, zero-add}
use Rattle.choosing.specs.Worth.{Scale, Laws}
use Rattle.choosing.specs.Choice.{size_at, worth_at, first, most}
use Rattle.std.specs.List.{position_from}
use Rattle.choosing.specs.Limits.{Filled}
use Rattle.choosing.specs.Turns.{reaches_goal, Begins}
use Rattle.choosing.proofs.Filling.{first_picked}
use Rattle.choosing.specs.declared.Candidate.{Candidate}
use Rattle.choosing.proofs.Choosing.{Sound, offer, chosen_first, most_least}
use Rattle.choosing.proofs.Orders.{below, sum_above}

-- no candidate offers more than the greatest worth
pub no_more : {W : Type 0} {s : Scale W} (laws : Laws s) (cands : List (Candidate W)) (sound : Sound s cands) (cap i : ℕ) → i < length cands → size_at cands i ≤ cap → s.less (most s cands cap) (offer s (first s cands) cap cands i) ≡ false
no_more {W} {s} laws cands sound cap i known fits =
    ⊎_elim (λ n. absurd (n.none i known fits))
    (λ x. subst (λ w. s.less w (offer s (first s cands) cap cands i) ≡ false) (sym (ap (λ r. r.worth) x.1.is)) (x.1.greatest i known fits))
    (chosen_first laws cands sound cap)

-- where a candidate fits, the greatest worth is more than nothing
pub fits_more : {W : Type 0} {s : Scale W} (laws : Laws s) (cands : List (Candidate W)) (sound : Sound s cands) (cap i : ℕ) → i < length cands → size_at cands i ≤ cap → s.less s.nothing (most s cands cap) ≡ true
fits_more {W} {s} laws cands sound cap i known fits =
    let left : ℕ = cap - size_at cands i in
    below laws s.nothing (offer s (first s cands) cap cands i) (most s cands cap)
    (sum_above laws (worth_at s cands i) (most s cands left) (sound.value i known) (most_least laws cands sound left))
    (no_more laws cands sound cap i known fits)

-- the first candidate that reaches the greatest worth is the one that the first sequence begins with; where none does, that is empty
pub begins : {W : Type 0} {s : Scale W} (laws : Laws s) (table : List W) (cands : List (Candidate W)) (sound : Sound s cands) (takes : (i : ℕ) → i < length cands → 50 ≤ size_at cands i) (cap : ℕ) → Filled s table cands (cap + 1) → (goal : W) → goal ≡ most s cands cap → (o : Option ℕ) → o ≡ position_from (reaches_goal s table cap goal) 0 cands → MatchOption o ((first s cands cap).order ≡ []) (λ k. Begins s cands cap k)
begins {W} {s} laws table cands sound takes cap filled goal goal_is o is =
    ⊎_elim (λ n. subst Claim (sym (head ∙ ap (λ r. slice_get r.order 0) n.is)) (ap (λ r. r.order) n.is))
    (λ x. subst Claim (sym (head ∙ ap (λ r. slice_get r.order 0) x.1.is)) (subst (Begins s cands cap) (sym (zero-add x.0)) (record {
      known = x.1.known;
      takes = takes x.0 x.1.known;
      fits = x.1.fits;
      on = ap (λ r. r.order) x.1.is ∙ ap (λ k. k ∷ (first s cands (cap - size_at cands x.0)).order) (zero-add x.0);
    })))
    (chosen_first laws cands sound cap)
  where
    Claim : Option ℕ → Type 0
    Claim p = MatchOption p ((first s cands cap).order ≡ []) (λ k. Begins s cands cap k)

    head : o ≡ slice_get (first s cands cap).order 0
    head = is ∙ first_picked laws table cands sound cap filled goal goal_is
