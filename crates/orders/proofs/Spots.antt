-- From what is left of a text to the place of its fault.
use Rattle.std.proofs.Common.{◌≡◌, ℕ, suc, ◌+◌, ◌-◌, ◌<◌, ◌≤◌, min, List, [], ◌∷◌, ◌++◌, length, take, drop, sym, refl, ap, ◌∙◌, subst, append_assoc, append-nil, add-one, arith, length-append, take-append-drop, length-take}
use Rattle.std.proofs.lemmas.List.{take_all, nil_from_length}
use Rattle.text.specs.Texts.{Begins}
use Rattle.orders.specs.Orders.{Lawful, LeftAtFault, FaultAfter}

take_front : (a b : List ℕ) → take (length a) (a ++ b) ≡ a
take_front [] b = refl
take_front (x ∷ a) b = ap (λ z. x ∷ z) (take_front a b)

one_more : (a : List ℕ) (x : ℕ) (b : List ℕ) → take (suc (length a)) (a ++ (x ∷ b)) ≡ a ++ (x ∷ [])
one_more [] x b = refl
one_more (y ∷ a) x b = ap (λ z. y ∷ z) (one_more a x b)

take_front_one : (a : List ℕ) (x : ℕ) (b : List ℕ) → take (length a + 1) (a ++ (x ∷ b)) ≡ a ++ (x ∷ [])
take_front_one a x b = ap (λ n. take n (a ++ (x ∷ b))) (add-one (length a)) ∙ one_more a x b

module _ (t : List ℕ) (size : ℕ) (least : size ≡ min (length t) 65536) where
  size_fits : size ≤ length t
  size_fits = omega arith

  front_length : length (take size t) ≡ size
  front_length = simp length-take (omega arith)

  -- a lawful front, and more bytes than may be
  pub too_long : Lawful (take size t) → size < length t → FaultAfter t size
  too_long l longer = record {
    within = size_fits;
    limit = omega arith;
    could = ([], subst Lawful (sym (append-nil (take size t))) l);
    early = λ e l. omega (arith, e, longer);
    cannot = λ a b w. omega (arith, a, b);
  }

  module _ (left : List ℕ) (f : LeftAtFault (take size t) left) where
    long : length f.read + length left ≡ size
    long = sym (simp length-append at (ap length f.parts)) ∙ front_length

    pub left_fits : length left ≤ size
    left_fits = omega (arith, long)

    place : size - length left ≡ length f.read
    place = omega (arith, long)

    whole : t ≡ f.read ++ (left ++ drop size t)
    whole = sym (take-append-drop size t) ∙ ap (λ z. z ++ drop size t) f.parts ∙ append_assoc f.read left (drop size t)

    before : take (length f.read) t ≡ f.read
    before = ap (λ z. take (length f.read) z) whole ∙ take_front f.read (left ++ drop size t)

    pub same_before : take (size - length left) (take size t) ≡ take (size - length left) t
    same_before = ap (λ n. take n (take size t)) place ∙ ap (λ z. take (length f.read) z) f.parts ∙ take_front f.read left ∙ sym before ∙ ap (λ n. take n t) (sym place)

    no_next : (l : List ℕ) → l ≡ left → length f.read < size → Begins Lawful (take (length f.read + 1) t) → ⊥
    no_next [] e less w = omega (arith, long, ap length e, less)
    no_next (b ∷ more) e less w =
        let shown : take (length f.read + 1) t ≡ f.read ++ (b ∷ [])
        = ap (λ z. take (length f.read + 1) z) (whole ∙ ap (λ z. f.read ++ (z ++ drop size t)) (sym e)) ∙ take_front_one f.read b (more ++ drop size t) in
        f.cannot b more (sym e) (subst (Begins Lawful) shown w)

    at_read : FaultAfter t (length f.read)
    at_read = record {
      within = omega (arith, long, least);
      limit = omega (arith, long, least);
      could = subst (Begins Lawful) (sym before) f.could;
      early = λ e l.
          let none : left ≡ [] = nil_from_length left (omega (arith, long, least, e)) in
          f.early none (subst Lawful (sym (take_all size t (omega (arith, long, least, e)))) l);
      cannot = λ a b w. no_next left refl (omega (arith, a, b, least)) w;
    }

    pub at_fault : FaultAfter t (size - length left)
    at_fault = subst (FaultAfter t) (sym place) at_read
