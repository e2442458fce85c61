-- The numbers of a task are those that count, each once and the lowest first; and the rows of a plate are such numbers.
use Rattle.std.proofs.Common.{◌≡◌, ℕ, zero, suc, ◌+◌, ◌*◌, ◌<◌, ◌≤◌, Bool, true, false, ◌&&◌, leb, ◌⊎◌, List, [], ◌∷◌, length, get_or, filter, sym, refl, ap, ◌∙◌, subst, inl, inr, add-zero, arith}
use Rattle.std.specs.List.{AllByRecursion}
use Rattle.std.proofs.lemmas.Bool.{leb-true, le-leb, and_parts}
use Rattle.std.proofs.ByRecursion.{all_kept_by}
use Rattle.layout.specs.declared.panel.Panel.{Panel}
use Rattle.layout.specs.declared.panel.Kind.{Kind}
use Rattle.layout.specs.declared.row.Row.{Row}
use Rattle.layout.specs.Limits.{no_kind}
use Rattle.layout.specs.Pieces.{along, across}
use Rattle.layout.specs.Tasks.{Model, Form, shape, value_of}
use Rattle.rules.specs.Rules.{Placed}
use Rattle.patterns.specs.declared.Oriented.{Oriented}
use Rattle.patterns.specs.Numbers.{number, oriented, inside, counts, keep, numbers_from, numbers}
use Rattle.patterns.specs.Counting.{Counted, kind_at}
use Rattle.patterns.proofs.Lists.{all_each, Pairs, In, all_keep, in_keep, in_kept}
use Rattle.patterns.proofs.Sizes.{form_is, panel_is, known_kind, along_of, across_of}

-- ---- every number of the list counts

module _ (m : Model) where
  -- the kind k at n, in the turn t, where the test passes
  counted_one : (n t : ℕ) (k : Kind) (allowed : Bool) → n < length m.kinds → get_or m.kinds n no_kind ≡ k → (allowed ≡ true → (t ≡ 0) ⊎ ((t ≡ 1) × (k.panel.may_turn ≡ true))) → counts m.length m.width k allowed (oriented n t k) ≡ true → Counted m (oriented n t k)
  counted_one n t k allowed known is turn e =
      let w = and_parts k.wanted (allowed && inside m.length m.width (oriented n t k)) e in
      let a = and_parts allowed (inside m.length m.width (oriented n t k)) w.1 in
      let f = and_parts (leb (along k.panel t) m.length) (leb (across k.panel t) m.width) a.1 in
      record {
        known = known;
        wanted = ap (λ (x : Kind). x.wanted) is ∙ w.0;
        turn = subst (λ (x : Kind). (t ≡ 0) ⊎ ((t ≡ 1) × (x.panel.may_turn ≡ true))) (sym is) (turn a.0);
        along_is = sym (ap (λ (x : Kind). along x.panel t) is);
        across_is = sym (ap (λ (x : Kind). across x.panel t) is);
        value_is = sym (ap (λ (x : Kind). x.value) is);
        along_most = leb-true (along k.panel t) m.length f.0;
        across_most = leb-true (across k.panel t) m.width f.1;
      }

  counted_from : (n : ℕ) (ks : List Kind) → ((i : ℕ) → i < length ks → (n + i < length m.kinds) × (get_or m.kinds (n + i) no_kind ≡ get_or ks i no_kind)) → AllByRecursion (Counted m) (numbers_from m.length m.width n ks)
  counted_from n [] part = tt
  counted_from n (k ∷ ks) part =
      all_keep (Counted m) (counts m.length m.width k true (oriented n 0 k)) (oriented n 0 k) (keep (counts m.length m.width k k.panel.may_turn (oriented n 1 k)) (oriented n 1 k) (numbers_from m.length m.width (suc n) ks))
      (counted_one n 0 k true known is (λ _. inl refl))
      (all_keep (Counted m) (counts m.length m.width k k.panel.may_turn (oriented n 1 k)) (oriented n 1 k) (numbers_from m.length m.width (suc n) ks)
      (counted_one n 1 k k.panel.may_turn known is (λ t. inr (refl, t)))
      (counted_from (suc n) ks (λ i h. let q = part (suc i) (omega arith) in let e : n + suc i ≡ suc n + i = omega arith in (omega (arith, q.0), sym (ap (λ j. get_or m.kinds j no_kind) e) ∙ q.1))))
    where
      known : n < length m.kinds
      known = omega (arith, (part 0 (omega arith)).0)

      is : get_or m.kinds n no_kind ≡ k
      is = sym (ap (λ j. get_or m.kinds j no_kind) (add-zero n)) ∙ (part 0 (omega arith)).1

  pub numbers_counted : AllByRecursion (Counted m) (numbers m)
  numbers_counted = counted_from 0 m.kinds (λ i h. let e : 0 + i ≡ i = omega arith in (omega arith, ap (λ j. get_or m.kinds j no_kind) e))

-- ---- every number that counts is in the list

module _ (l w : ℕ) where
  -- the test passes
  counts_in : (n t : ℕ) (k : Kind) (allowed : Bool) → k.wanted ≡ true → allowed ≡ true → along k.panel t ≤ l → across k.panel t ≤ w → counts l w k allowed (oriented n t k) ≡ true
  counts_in n t k allowed e f a b = simp (e, f, le-leb (along k.panel t) l a, le-leb (across k.panel t) w b)

  -- what stands among the later kinds stands in the list
  in_later : {o : Oriented} (n : ℕ) (k : Kind) (ks : List Kind) → In o (numbers_from l w (suc n) ks) → In o (numbers_from l w n (k ∷ ks))
  in_later n k ks i = in_keep (counts l w k true (oriented n 0 k)) (oriented n 0 k) (keep (counts l w k k.panel.may_turn (oriented n 1 k)) (oriented n 1 k) (numbers_from l w (suc n) ks)) (in_keep (counts l w k k.panel.may_turn (oriented n 1 k)) (oriented n 1 k) (numbers_from l w (suc n) ks) i)

  number_in : (n : ℕ) (ks : List Kind) (i t : ℕ) → i < length ks → (get_or ks i no_kind).wanted ≡ true → (t ≡ 0) ⊎ ((t ≡ 1) × ((get_or ks i no_kind).panel.may_turn ≡ true)) → along (get_or ks i no_kind).panel t ≤ l → across (get_or ks i no_kind).panel t ≤ w → In (oriented (n + i) t (get_or ks i no_kind)) (numbers_from l w n ks)
  number_in n [] i t h e turn a b = absurd (omega arith)
  number_in n (k ∷ ks) zero t h e turn a b = subst (λ j. In (oriented j t k) (numbers_from l w n (k ∷ ks))) (sym (add-zero n)) (by turn)
    where
      by : (t ≡ 0) ⊎ ((t ≡ 1) × (k.panel.may_turn ≡ true)) → In (oriented n t k) (numbers_from l w n (k ∷ ks))
      by (inl z) =
          subst (λ u. In (oriented n u k) (numbers_from l w n (k ∷ ks))) (sym z)
          (in_kept (counts l w k true (oriented n 0 k)) (oriented n 0 k) (keep (counts l w k k.panel.may_turn (oriented n 1 k)) (oriented n 1 k) (numbers_from l w (suc n) ks)) (counts_in n 0 k true e refl (subst (λ u. along k.panel u ≤ l) z a) (subst (λ u. across k.panel u ≤ w) z b)))
      by (inr (z, turns)) =
          subst (λ u. In (oriented n u k) (numbers_from l w n (k ∷ ks))) (sym z)
          (in_keep (counts l w k true (oriented n 0 k)) (oriented n 0 k) (keep (counts l w k k.panel.may_turn (oriented n 1 k)) (oriented n 1 k) (numbers_from l w (suc n) ks))
          (in_kept (counts l w k k.panel.may_turn (oriented n 1 k)) (oriented n 1 k) (numbers_from l w (suc n) ks) (counts_in n 1 k k.panel.may_turn e turns (subst (λ u. along k.panel u ≤ l) z a) (subst (λ u. across k.panel u ≤ w) z b))))
  number_in n (k ∷ ks) (suc i) t h e turn a b =
      in_later n k ks (subst (λ j. In (oriented j t (get_or ks i no_kind)) (numbers_from l w (suc n) ks)) (let z : suc n + i ≡ n + suc i = omega arith in z) (number_in (suc n) ks i t (omega arith) e turn a b))

-- a number that counts is its kind in its turn
counted_is : (m : Model) (o : Oriented) → Counted m o → oriented o.kind o.turned (kind_at m o) ≡ o
counted_is m o c =
    ap (λ a. record { kind = o.kind; turned = o.turned; along = a; across = across (kind_at m o).panel o.turned; value = (kind_at m o).value }) (sym c.along_is)
    ∙ ap (λ b. record { kind = o.kind; turned = o.turned; along = o.along; across = b; value = (kind_at m o).value }) (sym c.across_is)
    ∙ ap (λ v. record { kind = o.kind; turned = o.turned; along = o.along; across = o.across; value = v }) (sym c.value_is)

pub counted_in : (m : Model) (o : Oriented) → Counted m o → In o (numbers m)
counted_in m o c =
    subst (λ q. In q (numbers m)) (ap (λ j. oriented j o.turned (kind_at m o)) (let z : 0 + o.kind ≡ o.kind = omega arith in z) ∙ counted_is m o c)
    (number_in m.length m.width 0 m.kinds o.kind o.turned c.known c.wanted c.turn (omega (arith, c.along_is, c.along_most)) (omega (arith, c.across_is, c.across_most)))

-- ---- the lowest number first

-- the first has the lower number
abbrev pub Lower : Oriented → Oriented → Type 0
Lower a b = number a < number b

-- those of the kinds from n on
above_from : (l w n : ℕ) (ks : List Kind) → AllByRecursion (λ (o : Oriented). 2 * n ≤ number o) (numbers_from l w n ks)
above_from l w n [] = tt
above_from l w n (k ∷ ks) =
    all_keep (λ (o : Oriented). 2 * n ≤ number o) (counts l w k true (oriented n 0 k)) (oriented n 0 k) (keep (counts l w k k.panel.may_turn (oriented n 1 k)) (oriented n 1 k) (numbers_from l w (suc n) ks)) (λ _. omega arith)
    (all_keep (λ (o : Oriented). 2 * n ≤ number o) (counts l w k k.panel.may_turn (oriented n 1 k)) (oriented n 1 k) (numbers_from l w (suc n) ks) (λ _. omega arith)
    (all_each (λ o h. omega arith) (numbers_from l w (suc n) ks) (above_from l w (suc n) ks)))

pairs_keep : {A : Type 0} (R : A → A → Type 0) (b : Bool) (a : A) (rest : List A) → AllByRecursion (R a) rest → Pairs R rest → Pairs R (keep b a rest)
pairs_keep R true a rest first later = (first, later)
pairs_keep R false a rest first later = later

lower_from : (l w n : ℕ) (ks : List Kind) → Pairs Lower (numbers_from l w n ks)
lower_from l w n [] = tt
lower_from l w n (k ∷ ks) =
    let later = above_from l w (suc n) ks in
    pairs_keep Lower (counts l w k true (oriented n 0 k)) (oriented n 0 k) (keep (counts l w k k.panel.may_turn (oriented n 1 k)) (oriented n 1 k) (numbers_from l w (suc n) ks))
    (all_keep (Lower (oriented n 0 k)) (counts l w k k.panel.may_turn (oriented n 1 k)) (oriented n 1 k) (numbers_from l w (suc n) ks) (λ _. omega arith) (all_each (λ o h. omega arith) (numbers_from l w (suc n) ks) later))
    (pairs_keep Lower (counts l w k k.panel.may_turn (oriented n 1 k)) (oriented n 1 k) (numbers_from l w (suc n) ks) (all_each (λ o h. omega arith) (numbers_from l w (suc n) ks) later) (lower_from l w (suc n) ks))

pub numbers_lower : (m : Model) → Pairs Lower (numbers m)
numbers_lower m = lower_from m.length m.width 0 m.kinds

-- what a test keeps stays in order
pub pairs_kept_by : {A : Type 0} (R : A → A → Type 0) (test : A → Bool) (xs : List A) → Pairs R xs → Pairs R (filter test xs)
pairs_kept_by R test [] ok = tt
pairs_kept_by R test (x ∷ xs) ok = pairs_keep R (test x) x (filter test xs) (all_kept_by test (R x) xs ok.0) (pairs_kept_by R test xs ok.1)

-- ---- every row that is lawfully placed is a number that counts

-- o is the number of the row r
pub record Numbers (m : Model) (r : Row) (o : Oriented) : Type 0 where
  pub along_is : o.along ≡ along_of (shape m) r
  pub across_is : o.across ≡ across_of (shape m) r
  pub value_is : o.value ≡ value_of m r

row_counted : (m : Model) (r : Row) → Placed (shape m) r → Counted m (oriented r.kind r.turned (get_or m.kinds r.kind no_kind))
row_counted m r p =
    let f = form_is m r in
    let g = panel_is m r in
    record {
      known = known_kind m r p;
      wanted = sym (ap (λ (x : Form). x.wanted) f) ∙ p.wanted;
      turn = subst (λ (x : Panel). (r.turned ≡ 0) ⊎ ((r.turned ≡ 1) × (x.may_turn ≡ true))) g p.turn;
      along_is = refl;
      across_is = refl;
      value_is = refl;
      along_most = omega (arith, p.inside_along, ap (λ (x : Panel). along x r.turned) g);
      across_most = omega (arith, p.inside_across, ap (λ (x : Panel). across x r.turned) g);
    }

pub numbered : (m : Model) (r : Row) → Placed (shape m) r → (o : Oriented) × In o (numbers m) × Numbers m r o
numbered m r p =
    let g = panel_is m r in (
      oriented r.kind r.turned (get_or m.kinds r.kind no_kind),
      counted_in m (oriented r.kind r.turned (get_or m.kinds r.kind no_kind)) (row_counted m r p),
      record { along_is = sym (ap (λ (x : Panel). along x r.turned) g); across_is = sym (ap (λ (x : Panel). across x r.turned) g); value_is = refl },
    )
