-- Numbers can be put in an order by across size.
use Rattle.std.proofs.Common.{◌≡◌, ◌≤◌, ◌⊎◌, List, [], ◌∷◌, sym, refl, ap, subst, inl, inr, ⊎_elim, arith}
use native.Mathlib.Decide.{dec_le}
use Rattle.patterns.specs.declared.Oriented.{Oriented}
use Rattle.patterns.proofs.Lists.{all_each, Pairs, In, here, there, all_in, in_all}

-- the first reaches no further across
abbrev pub Rise : Oriented → Oriented → Type 0
Rise a b = a.across ≤ b.across

-- a list with q put in
record Inserted (q : Oriented) (ys : List Oriented) : Type 0 where
  list : List Oriented
  only : (x : Oriented) → In x list → (x ≡ q) ⊎ In x ys
  every : (x : Oriented) → (x ≡ q) ⊎ In x ys → In x list
  rising : Pairs Rise list

insert : (q : Oriented) (ys : List Oriented) → Pairs Rise ys → Inserted q ys
insert q [] ok = record { list = q ∷ []; only = λ x i. one x i; every = λ x i. ⊎_elim (λ e. subst (λ p. In p (q ∷ [])) (sym e) here) (λ j. there j) i; rising = (tt, tt) }
  where
    one : (x : Oriented) → In x (q ∷ []) → (x ≡ q) ⊎ In x []
    one x here = inl refl
    one x (there i) = inr i
insert q (y ∷ ys) ok = by (dec_le q.across y.across) (insert q ys ok.1)
  where
    front : (x : Oriented) → In x (q ∷ (y ∷ ys)) → (x ≡ q) ⊎ In x (y ∷ ys)
    front x here = inl refl
    front x (there i) = inr i

    by : Dec (q.across ≤ y.across) → Inserted q ys → Inserted q (y ∷ ys)
    by (yes le) _ = record { list = q ∷ (y ∷ ys); only = front; every = λ x i. ⊎_elim (λ e. subst (λ p. In p (q ∷ (y ∷ ys))) (sym e) here) (λ j. there j) i; rising = ((le, all_each (λ z h. omega arith) ys ok.0), ok) }
    by (no gt) r = record { list = y ∷ r.list; only = later; every = back; rising = (all_in (Rise y) r.list (λ x i. ⊎_elim (λ e. omega (arith, ap (λ (p : Oriented). p.across) e)) (λ j. in_all (Rise y) j ok.0) (r.only x i)), r.rising) }
      where
        later : (x : Oriented) → In x (y ∷ r.list) → (x ≡ q) ⊎ In x (y ∷ ys)
        later x here = inr here
        later x (there i) = ⊎_elim (λ e. inl e) (λ j. inr (there j)) (r.only x i)

        back : (x : Oriented) → (x ≡ q) ⊎ In x (y ∷ ys) → In x (y ∷ r.list)
        back x (inl e) = there (r.every x (inl e))
        back x (inr here) = here
        back x (inr (there i)) = there (r.every x (inr i))

-- the same numbers, in an order by across size
pub record Risen (xs : List Oriented) : Type 0 where
  pub list : List Oriented
  pub only : (x : Oriented) → In x list → In x xs
  pub every : (x : Oriented) → In x xs → In x list
  pub rising : Pairs Rise list

pub risen : (xs : List Oriented) → Risen xs
risen [] = record { list = []; only = λ x i. i; every = λ x i. i; rising = tt }
risen (y ∷ xs) = by (risen xs)
  where
    by : Risen xs → Risen (y ∷ xs)
    by r = let z = insert y r.list r.rising in
        record {
          list = z.list;
          only = λ x i. ⊎_elim (λ e. subst (λ p. In p (y ∷ xs)) (sym e) here) (λ j. there (r.only x j)) (z.only x i);
          every = λ x i. z.every x (split x i);
          rising = z.rising;
        }
      where
        split : (x : Oriented) → In x (y ∷ xs) → (x ≡ y) ⊎ In x r.list
        split x here = inl refl
        split x (there i) = inr (r.every x i)
