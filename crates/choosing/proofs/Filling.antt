-- The choice by one candidate after the other, as the code finds it by a table of greatest worths.
use Rattle.std.proofs.Common.{◌≡◌, ℕ, zero, suc, ◌+◌, ◌-◌, ◌<◌, ◌≤◌, Bool, true, false, cond, leb, not, ◌&&◌, List, [], ◌∷◌, length, get_or, fold, map, unwrap_or, slice_get, Some, None, sym, refl, ap, ◌∙◌, add-one, arith}
use Rattle.std.proofs.lemmas.Bool.{leb-true, leb-false, le-leb, lt-leb, cond-true, cond-false}
use Rattle.choosing.specs.Worth.{Scale, Laws}
use Rattle.std.specs.List.{position_from}
use Rattle.choosing.specs.Choice.{size_at, worth_at, Choice, taking, prefer, choose, first, most}
use Rattle.choosing.specs.Recursion.{larger}
use Rattle.choosing.specs.Limits.{Filled}
use Rattle.choosing.specs.Turns.{sum_with, offer_or_nothing, reaches_goal}
use Rattle.choosing.specs.declared.Candidate.{Candidate}
use Rattle.choosing.proofs.Choosing.{Sound, first_step, most_least}
use Rattle.choosing.proofs.Orders.{not_below, larger_assoc, larger_left, larger_right_is}

module _ {W : Type 0} (s : Scale W) (rest : ℕ → Choice W) (cap k : ℕ) (c : Candidate W) (cs : List (Candidate W)) where
  -- a candidate that is too large changes nothing
  pub worth_over : cap < c.size → (choose s rest cap k (c ∷ cs)).worth ≡ (choose s rest cap (suc k) cs).worth
  worth_over h = ap (λ r. r.worth) (cond-false (leb c.size cap) (prefer s (taking s k c (rest (cap - c.size))) (choose s rest cap (suc k) cs)) (choose s rest cap (suc k) cs) (lt-leb c.size cap h))

  -- another offers its own worth and the best of the rest
  pub worth_fits : c.size ≤ cap → (choose s rest cap k (c ∷ cs)).worth ≡ larger s (s.plus c.worth (rest (cap - c.size)).worth) (choose s rest cap (suc k) cs).worth
  worth_fits h =
      ap (λ r. r.worth) (cond-true (leb c.size cap) (prefer s (taking s k c (rest (cap - c.size))) (choose s rest cap (suc k) cs)) (choose s rest cap (suc k) cs) (le-leb c.size cap h))
      ∙ through (s.less (taking s k c (rest (cap - c.size))).worth (choose s rest cap (suc k) cs).worth) (taking s k c (rest (cap - c.size))) (choose s rest cap (suc k) cs)
    where
      through : (b : Bool) (x y : Choice W) → (cond b y x).worth ≡ cond b y.worth x.worth
      through true x y = refl
      through false x y = refl

-- ---- the candidate that is read at a position

pub size_read : {W : Type 0} (cands : List (Candidate W)) (i : ℕ) (d : Candidate W) → i < length cands → (get_or cands i d).size ≡ size_at cands i
size_read [] i d h = absurd (omega arith)
size_read (c ∷ cs) zero d h = refl
size_read (c ∷ cs) (suc i) d h = size_read cs i d (omega arith)

pub worth_read : {W : Type 0} (s : Scale W) (cands : List (Candidate W)) (i : ℕ) (d : Candidate W) → i < length cands → (get_or cands i d).worth ≡ worth_at s cands i
worth_read s [] i d h = absurd (omega arith)
worth_read s (c ∷ cs) zero d h = refl
worth_read s (c ∷ cs) (suc i) d h = worth_read s cs i d (omega arith)

-- ---- the offers of candidates, by a table of greatest worths

-- at each smaller capacity the table has the worth of the rest
abbrev pub Agrees : {W : Type 0} → Scale W → List W → (ℕ → Choice W) → ℕ → Type 0
Agrees s table rest cap = (n : ℕ) → n < cap → get_or table n s.nothing ≡ (rest n).worth

-- each candidate takes room
abbrev pub TakesRoom : {W : Type 0} → List (Candidate W) → Type 0
TakesRoom cs = (i : ℕ) → i < length cs → 1 ≤ size_at cs i

module _ {W : Type 0} {s : Scale W} (laws : Laws s) (table : List W) (rest : ℕ → Choice W) (cap : ℕ) (agrees : Agrees s table rest cap) where
  -- the largest of some worth and of what the candidates offer
  pub largest_offer : (k : ℕ) (cs : List (Candidate W)) (b : W) → TakesRoom cs → s.less b s.nothing ≡ false → fold (larger s) b (map (offer_or_nothing s table cap) cs) ≡ larger s b (choose s rest cap k cs).worth
  largest_offer k [] b room above = sym (cond-false (s.less b s.nothing) s.nothing b above)
  largest_offer k (c ∷ cs) b room above =
      by (λ a. largest_offer (suc k) cs a (λ i h. room (suc i) (omega arith))) (leb c.size cap) refl
    where
      sum : W
      sum = sum_with s table cap c

      by : ((a : W) → s.less a s.nothing ≡ false → fold (larger s) a (map (offer_or_nothing s table cap) cs) ≡ larger s a (choose s rest cap (suc k) cs).worth) → (t : Bool) → leb c.size cap ≡ t → fold (larger s) (larger s b (unwrap_or (cond t (Some sum) None) s.nothing)) (map (offer_or_nothing s table cap) cs) ≡ larger s b (choose s rest cap k (c ∷ cs)).worth
      by later true e =
          let fits : c.size ≤ cap = leb-true c.size cap e in
          let takes : 1 ≤ c.size = room 0 (omega arith) in
          later (larger s b sum) (not_below laws s.nothing b (larger s b sum) above (larger_left laws b sum))
          ∙ sym (larger_assoc laws b sum (choose s rest cap (suc k) cs).worth)
          ∙ ap (λ w. larger s b (larger s (s.plus c.worth w) (choose s rest cap (suc k) cs).worth)) (agrees (cap - c.size) (omega arith))
          ∙ ap (larger s b) (sym (worth_fits s rest cap k c cs fits))
      by later false e =
          later (larger s b s.nothing) (not_below laws s.nothing b (larger s b s.nothing) above (larger_left laws b s.nothing))
          ∙ ap (λ w. larger s w (choose s rest cap (suc k) cs).worth) (cond-false (s.less b s.nothing) s.nothing b above)
          ∙ ap (larger s b) (sym (worth_over s rest cap k c cs (leb-false c.size cap e)))

  -- the first candidate that reaches the best worth is the one that the choice begins with
  pub first_to_reach : (k : ℕ) (cs : List (Candidate W)) (goal : W) → TakesRoom cs → goal ≡ (choose s rest cap k cs).worth → position_from (reaches_goal s table cap goal) k cs ≡ slice_get (choose s rest cap k cs).order 0
  first_to_reach k [] goal room is = refl
  first_to_reach k (c ∷ cs) goal room is =
      by_room (λ same. ap (λ n. position_from (reaches_goal s table cap goal) n cs) (add-one k) ∙ first_to_reach (suc k) cs goal (λ i h. room (suc i) (omega arith)) same) (leb c.size cap) refl is
    where
      next : Choice W
      next = choose s rest cap (suc k) cs

      mine : Choice W
      mine = taking s k c (rest (cap - c.size))

      by_worth : (goal ≡ next.worth → position_from (reaches_goal s table cap goal) (k + 1) cs ≡ slice_get next.order 0) → (u : Bool) → s.less mine.worth next.worth ≡ u → s.less (sum_with s table cap c) goal ≡ s.less mine.worth goal → goal ≡ (cond u next mine).worth → cond (not (s.less (sum_with s table cap c) goal)) (Some k) (position_from (reaches_goal s table cap goal) (k + 1) cs) ≡ slice_get (cond u next mine).order 0
      by_worth later true e same here =
          cond-false (not (s.less (sum_with s table cap c) goal)) (Some k) (position_from (reaches_goal s table cap goal) (k + 1) cs) (ap not (same ∙ ap (s.less mine.worth) here ∙ e)) ∙ later here
      by_worth later false e same here =
          cond-true (not (s.less (sum_with s table cap c) goal)) (Some k) (position_from (reaches_goal s table cap goal) (k + 1) cs) (ap not (same ∙ ap (s.less mine.worth) here ∙ laws.never mine.worth))

      by_room : (goal ≡ next.worth → position_from (reaches_goal s table cap goal) (k + 1) cs ≡ slice_get next.order 0) → (t : Bool) → leb c.size cap ≡ t → goal ≡ (cond t (prefer s mine next) next).worth → cond (t && not (s.less (sum_with s table cap c) goal)) (Some k) (position_from (reaches_goal s table cap goal) (k + 1) cs) ≡ slice_get (cond t (prefer s mine next) next).order 0
      by_room later true e here =
          let fits : c.size ≤ cap = leb-true c.size cap e in
          let takes : 1 ≤ c.size = room 0 (omega arith) in
          by_worth later (s.less mine.worth next.worth) refl (ap (λ w. s.less (s.plus c.worth w) goal) (agrees (cap - c.size) (omega arith))) here
      by_room later false e here = later here

module _ {W : Type 0} {s : Scale W} (laws : Laws s) (table : List W) (cands : List (Candidate W)) (sound : Sound s cands) (cap : ℕ) where
  -- the largest of what the candidates offer is the greatest worth
  pub largest_is_most : Filled s table cands cap → fold (larger s) s.nothing (map (offer_or_nothing s table cap) cands) ≡ most s cands cap
  largest_is_most filled =
      largest_offer laws table (first s cands) cap (λ n h. filled n s.nothing h) 0 cands s.nothing sound.room (laws.never s.nothing)
      ∙ ap (λ r. larger s s.nothing r.worth) (sym (first_step s cands sound.room cap))
      ∙ larger_right_is laws s.nothing (most s cands cap) (most_least laws cands sound cap)

  -- the first candidate that reaches the greatest worth is the one that the first sequence begins with
  pub first_picked : Filled s table cands (cap + 1) → (goal : W) → goal ≡ most s cands cap → position_from (reaches_goal s table cap goal) 0 cands ≡ slice_get (first s cands cap).order 0
  first_picked filled goal is =
      let step = first_step s cands sound.room cap in
      first_to_reach laws table (first s cands) cap (λ n h. filled n s.nothing (omega arith)) 0 cands goal sound.room (is ∙ ap (λ r. r.worth) step)
      ∙ ap (λ r. slice_get r.order 0) (sym step)
