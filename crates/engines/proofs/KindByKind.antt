-- The numbers that count, one kind after the other.
use Rattle.std.proofs.Common.{◌≡◌, ℕ, suc, ◌+◌, ◌<◌, ◌≤◌, Bool, true, false, List, [], ◌++◌, length, get_or, drop, sym, refl, ap, ◌∙◌, append_assoc, arith}
use Rattle.std.proofs.lemmas.List.{at_drop_more, at_drop_all, append-nil}
use Rattle.layout.specs.declared.panel.Kind.{Kind}
use Rattle.patterns.specs.Numbers.{oriented, counts, keep, numbers_from}
use Rattle.patterns.specs.declared.Oriented.{Oriented}

keep_split : {A : Type 0} (b : Bool) (a : A) (rest : List A) → keep b a rest ≡ keep b a [] ++ rest
keep_split true a rest = refl
keep_split false a rest = refl

-- two that may be kept, and then the rest
both_kept : {A : Type 0} (front after last : List A) (b₁ b₂ : Bool) (x y : A) (rest whole : List A) → after ≡ front ++ keep b₁ x [] → last ≡ after ++ keep b₂ y [] → front ++ keep b₁ x (keep b₂ y rest) ≡ whole → last ++ rest ≡ whole
both_kept front after last b₁ b₂ x y rest whole e₁ e₂ so_far =
    ap (λ t. t ++ rest) (e₂ ∙ ap (λ t. t ++ keep b₂ y []) e₁)
    ∙ append_assoc (front ++ keep b₁ x []) (keep b₂ y []) rest
    ∙ append_assoc front (keep b₁ x []) (keep b₂ y [] ++ rest)
    ∙ sym (ap (λ t. front ++ t) (keep_split b₁ x (keep b₂ y rest) ∙ ap (λ t. keep b₁ x [] ++ t) (keep_split b₂ y rest)))
    ∙ so_far

module _ (l w i : ℕ) (ks : List Kind) where
  -- one kind more: its two numbers come after those in front
  pub kind_more : (d : Kind) (front after last whole : List Oriented) → i < length ks
      → after ≡ front ++ keep (counts l w (get_or ks i d) true (oriented i 0 (get_or ks i d))) (oriented i 0 (get_or ks i d)) []
      → last ≡ after ++ keep (counts l w (get_or ks i d) (get_or ks i d).panel.may_turn (oriented i 1 (get_or ks i d))) (oriented i 1 (get_or ks i d)) []
      → front ++ numbers_from l w i (drop i ks) ≡ whole → last ++ numbers_from l w (i + 1) (drop (i + 1) ks) ≡ whole
  kind_more d front after last whole known first second so_far =
      let k = get_or ks i d in
      let next : i + 1 ≡ suc i = omega arith in
      ap (λ n. last ++ numbers_from l w n (drop (i + 1) ks)) next
      ∙ both_kept front after last (counts l w k true (oriented i 0 k)) (counts l w k k.panel.may_turn (oriented i 1 k)) (oriented i 0 k) (oriented i 1 k) (numbers_from l w (suc i) (drop (i + 1) ks)) whole first second
      (sym (ap (λ t. front ++ t) (at_drop_more (numbers_from l w i) ks i d known)) ∙ so_far)

  pub kind_last : (front whole : List Oriented) → length ks ≤ i → front ++ numbers_from l w i (drop i ks) ≡ whole → front ≡ whole
  kind_last front whole all so_far = sym (append-nil front) ∙ sym (ap (λ t. front ++ t) (at_drop_all (numbers_from l w i) ks i all)) ∙ so_far
