-- What the laws of a worth give of its order.
use Rattle.std.proofs.Common.{◌≡◌, Bool, true, false, cond, sym, refl, subst, ◌∙◌, ⊎_elim}
use Rattle.std.proofs.lemmas.Bool.{cases_Bool, both_ways, false_from_ne_true, cond-true, cond-false, cond_both}
use Rattle.choosing.specs.Worth.{Scale, Laws}
use Rattle.choosing.specs.Recursion.{larger}

module _ {W : Type 0} {s : Scale W} (laws : Laws s) where
  -- less holds one way only
  pub one_way : (a b : W) → s.less a b ≡ true → s.less b a ≡ false
  one_way a b h = false_from_ne_true (s.less b a) (λ e. both_ways (s.less a a) (laws.never a) (laws.chain a b a h e))

  -- b is no less than a, and c is no less than b
  pub not_below : (a b c : W) → s.less b a ≡ false → s.less c b ≡ false → s.less c a ≡ false
  not_below a b c ba cb =
      false_from_ne_true (s.less c a)
      (λ ca.
      ⊎_elim (λ ab. both_ways (s.less c b) cb (laws.chain c a b ca ab))
      (λ ab. both_ways (s.less c b) cb (subst (λ x. s.less c x ≡ true) (laws.total a b ab ba) ca))
      (cases_Bool (s.less a b)))

  -- a is less than b, and c is no less than b
  pub below : (a b c : W) → s.less a b ≡ true → s.less c b ≡ false → s.less a c ≡ true
  below a b c ab cb =
      ⊎_elim (λ bc. laws.chain a b c ab bc) (λ bc. subst (λ x. s.less a x ≡ true) (laws.total b c bc cb) ab) (cases_Bool (s.less b c))

  -- the sum of one worth and a greater one is no less
  pub raised_not : (c a b : W) → s.less a b ≡ false → s.less (s.plus c a) (s.plus c b) ≡ false
  raised_not c a b ab =
      ⊎_elim (λ ba. one_way (s.plus c b) (s.plus c a) (laws.raised c b a ba))
      (λ ba. subst (λ x. s.less (s.plus c a) (s.plus c x) ≡ false) (laws.total a b ab ba) (laws.never (s.plus c a)))
      (cases_Bool (s.less b a))

  -- equal sums of one worth have equal parts
  pub same_part : (c a b : W) → s.plus c a ≡ s.plus c b → a ≡ b
  same_part c a b e = laws.total a b (apart a b e) (apart b a (sym e))
    where
      apart : (x y : W) → s.plus c x ≡ s.plus c y → s.less x y ≡ false
      apart x y same =
          false_from_ne_true (s.less x y)
          (λ h. both_ways (s.less (s.plus c x) (s.plus c x)) (laws.never (s.plus c x)) (subst (λ z. s.less (s.plus c x) z ≡ true) (sym same) (laws.raised c x y h)))

  -- a worth above nothing, added to one that is not below nothing, is above nothing
  pub sum_above : (a b : W) → s.less s.nothing a ≡ true → s.less b s.nothing ≡ false → s.less s.nothing (s.plus a b) ≡ true
  sum_above a b na bn =
      below s.nothing a (s.plus a b) na (subst (λ x. s.less (s.plus a b) x ≡ false) (laws.right a) (raised_not a b s.nothing bn))

  -- a is no more than b, and b is less than c
  pub up_to : (a b c : W) → s.less b a ≡ false → s.less b c ≡ true → s.less a c ≡ true
  up_to a b c ba bc =
      ⊎_elim (λ ab. laws.chain a b c ab bc) (λ ab. subst (λ x. s.less x c ≡ true) (laws.total b a ba ab) bc) (cases_Bool (s.less a b))

  -- ---- the larger of two

  pub larger_left : (a b : W) → s.less (larger s a b) a ≡ false
  larger_left a b = cond_both (s.less a b) b a (λ w. s.less w a ≡ false) (one_way a b) (λ f. laws.never a)

  pub larger_right : (a b : W) → s.less (larger s a b) b ≡ false
  larger_right a b = cond_both (s.less a b) b a (λ w. s.less w b ≡ false) (λ t. laws.never b) (λ f. f)

  -- where the second is no less, it is the larger
  pub larger_right_is : (a b : W) → s.less b a ≡ false → larger s a b ≡ b
  larger_right_is a b no_less = cond_both (s.less a b) b a (λ w. w ≡ b) (λ t. refl) (λ f. laws.total a b f no_less)

  pub larger_assoc : (a b c : W) → larger s a (larger s b c) ≡ larger s (larger s a b) c
  larger_assoc a b c = by (s.less a b) (s.less b c) refl refl
    where
      by : (p q : Bool) → s.less a b ≡ p → s.less b c ≡ q → larger s a (cond q c b) ≡ larger s (cond p b a) c
      by true true e f = cond-true (s.less a c) c a (laws.chain a b c e f) ∙ sym (cond-true (s.less b c) c b f)
      by true false e f = cond-true (s.less a b) b a e ∙ sym (cond-false (s.less b c) c b f)
      by false true e f = refl
      by false false e f = cond-false (s.less a b) b a e ∙ sym (cond-false (s.less a c) c a (not_below c b a f e))
