-- A number as it is read, digit by digit.
use Rattle.std.proofs.Common.{◌≡◌, ℕ, zero, suc, ◌+◌, ◌-◌, ◌*◌, ◌/◌, ◌%◌, ◌^◌, ◌<◌, ◌≤◌, List, [], ◌∷◌, ◌++◌, length, get_or, decimal, sym, refl, ap, ◌∙◌, subst, inl, inr, arith, lit<, length-append}
use native.Mathlib.Nat.{pow-le-pow_right, pow-succ'}
use Rattle.std.specs.Int.{IsInRange}
use Rattle.std.specs.Str.Parse.{AllDigits}
use Rattle.std.proofs.lemmas.Str.Parse.{digit_from_value}
use Rattle.std.proofs.lemmas.Fmt.{decimal_is_IsNumeral, decimal_digit, decimal_step, length-decimal-le, first_decimal}
use Rattle.text.specs.Texts.{Stops}
use Rattle.text.specs.Fields.{Number, More}
use Rattle.text.proofs.Codes.{Code, Cut, cuts, head_same, tail_same, not_nil, push_rest}

-- what is written of a number v of k digits
abbrev pub written : ℕ → ℕ → List ℕ
written zero v = []
written (suc k) v = decimal v

-- k digits of the number v were read of t
pub record Read (k v : ℕ) (t rest : List ℕ) : Type 0 where
  pub parts : t ≡ written k v ++ rest
  pub long : length (written k v) ≡ k
  pub few : k ≤ 7
  pub small : v < 10 ^ k

-- a byte of a number is a digit
in_digits : (a : List ℕ) (b : ℕ) (c : List ℕ) → AllDigits 10 (a ++ (b ∷ c)) → IsInRange 48 57 b
in_digits [] b c h = digit_from_value b h.0
in_digits (x ∷ a) b c h = in_digits a b c h.1

pub in_decimal : (n : ℕ) → n < 10 ^ 7 → (a : List ℕ) (b : ℕ) (c : List ℕ) → decimal n ≡ a ++ (b ∷ c) → IsInRange 48 57 b
in_decimal n small a b c e = in_digits a b c (subst (AllDigits 10) e (decimal_is_IsNumeral n (omega arith)).0.1)

first_digit : (b : ℕ) (r ds z : List ℕ) → 0 < length ds → AllDigits 10 ds → b ∷ r ≡ ds ++ z → IsInRange 48 57 b
first_digit b r [] z some h e = absurd (omega (arith, some))
first_digit b r (d ∷ ds) z some h e = let f : b ≡ d = head_same b d r (ds ++ z) e in subst (IsInRange 48 57) (sym f) (digit_from_value d h.0)

-- what begins with a number begins with a digit
pub decimal_front : (n : ℕ) → n < 10 ^ 7 → (b : ℕ) (r z : List ℕ) → b ∷ r ≡ decimal n ++ z → IsInRange 48 57 b
decimal_front n small b r z e = let d = (decimal_is_IsNumeral n (omega arith)).0 in first_digit b r (decimal n) z d.0 d.1 e

-- no number with its mark begins another
code_by : (m : ℕ) → (IsInRange 48 57 m → ⊥) → (n k : ℕ) (v : List ℕ) → k < 10 ^ 7 → Cut (decimal n) (m ∷ v) (decimal k) (m ∷ []) → v ≡ []
code_by m mark n k v hk (inl ([], p, q)) = sym (tail_same m m [] v q)
code_by m mark n k v hk (inl (x ∷ xs, p, q)) = absurd (not_nil m xs v (sym (tail_same m x [] (xs ++ (m ∷ v)) q)))
code_by m mark n k v hk (inr ([], p, q)) = tail_same m m v [] q
code_by m mark n k v hk (inr (x ∷ xs, p, q)) =
    absurd (mark (subst (IsInRange 48 57) (sym (head_same m x v (xs ++ (m ∷ [])) q)) (in_decimal k hk (decimal n) x xs p)))

pub number_code : (m : ℕ) → (IsInRange 48 57 m → ⊥) → Code (Number m)
number_code m mark u v (n, hn, e) (k, hk, f) =
    code_by m mark n k v hk (cuts (decimal n) (m ∷ v) (decimal k) (m ∷ []) (sym (push_rest (decimal n) m v) ∙ ap (λ z. z ++ v) (sym e) ∙ f))

below : (k v : ℕ) → k ≤ 7 → v < 10 ^ k → v < 10 ^ 7
below k v few small = let p : 10 ^ k ≤ 10 ^ 7 = pow-le-pow_right (lit< tt) few in omega arith

pub read_small : (k v : ℕ) (t rest : List ℕ) → Read k v t rest → v < 10 ^ 7
read_small k v t rest r = below k v r.few r.small

-- a byte that cannot go on with a number v of k digits: not the mark, and no digit more
pub record Bad (m k v b : ℕ) : Type 0 where
  pub mark : 0 < k → b ≡ m → ⊥
  pub digit : More k v b → ⊥

no_zero : (n b : ℕ) (x : List ℕ) → n < 10 ^ 7 → decimal n ≡ 48 ∷ (b ∷ x) → ⊥
no_zero zero b x hn e = omega (arith, ap length (sym (decimal_digit 0 (lit< tt)) ∙ e))
no_zero (suc n) b x hn e = omega (arith, first_decimal (suc n) (omega arith) (omega arith), ap (λ z. get_or z 0 0) e)

-- where a longer number is lawful, its next digit could be taken
could_more : (k v n b : ℕ) (x : List ℕ) → n < 10 ^ 7 → length (decimal v) ≡ k → decimal n ≡ decimal v ++ (b ∷ x) → More k v b
could_more k v n b x hn long e = record {
  room = omega (arith, length-decimal-le 7 n (lit< tt) hn (omega arith), simp length-append at (ap length e));
  plain = λ some zeroed. no_zero n b x hn (e ∙ ap (λ z. z ++ (b ∷ x)) (ap decimal zeroed ∙ decimal_digit 0 (lit< tt)));
  digit = in_decimal n hn (decimal v) b x e;
}

module _ (m : ℕ) where
  at_mark : (k v n b : ℕ) (r : List ℕ) → n < 10 ^ 7 → length (decimal v) ≡ k → 0 < k → Bad m k v b → Cut (decimal v) (b ∷ r) (decimal n) (m ∷ []) → ⊥
  at_mark k v n b r hn long some bad (inl ([], p, q)) = bad.mark some (head_same b m r [] (sym q))
  at_mark k v n b r hn long some bad (inl (x ∷ xs, p, q)) = not_nil b xs r (sym (tail_same m x [] (xs ++ (b ∷ r)) q))
  at_mark k v n b r hn long some bad (inr ([], p, q)) = bad.mark some (head_same b m r [] q)
  at_mark k v n b r hn long some bad (inr (x ∷ xs, p, q)) =
      bad.digit (could_more k v n b xs hn long (p ∙ ap (λ z. decimal v ++ (z ∷ xs)) (sym (head_same b x r (xs ++ (m ∷ [])) q))))

  at_start : (v n b : ℕ) (r : List ℕ) → n < 10 ^ 7 → Bad m 0 v b → b ∷ r ≡ decimal n ++ (m ∷ []) → ⊥
  at_start v n b r hn bad e =
      let d = (decimal_is_IsNumeral n (omega arith)).0 in
      bad.digit (record {
        room = lit< tt;
        plain = λ some zeroed. omega (arith, some);
        digit = first_digit b r (decimal n) (m ∷ []) d.0 d.1 e;
      })

  pub number_stops : (k v : ℕ) (t rest : List ℕ) → Read k v t rest → ((b : ℕ) (more : List ℕ) → rest ≡ b ∷ more → Bad m k v b) → Stops (Number m) t rest
  number_stops zero v t rest s bad = record {
    read = [];
    parts = s.parts;
    next = 48;
    after = m ∷ [];
    could = (0, lit< tt, ap (λ z. z ++ (m ∷ [])) (sym (decimal_digit 0 (lit< tt))));
    cannot = λ b more f w. at_start v w.1.0 b w.0 w.1.1 (bad b more f) w.1.2;
  }
  number_stops (suc k) v t rest s bad = record {
    read = decimal v;
    parts = s.parts;
    next = m;
    after = [];
    could = (v, read_small (suc k) v t rest s, refl);
    cannot = λ b more f w. at_mark (suc k) v w.1.0 b w.0 w.1.1 s.long (omega arith) (bad b more f)
        (cuts (decimal v) (b ∷ w.0) (decimal w.1.0) (m ∷ []) (sym (push_rest (decimal v) b w.0) ∙ w.1.2));
  }

-- one digit more
one_more : (v b : ℕ) → 0 < v → v < 10 ^ 7 → IsInRange 48 57 b → decimal (v * 10 + (b - 48)) ≡ decimal v ++ (b ∷ [])
one_more v b some small (low, high) =
    let n = v * 10 + (b - 48) in
    let q : n / 10 ≡ v = omega arith in
    let d : 48 + n % 10 ≡ b = omega arith in
    decimal_step n (omega arith) (omega arith) ∙ ap (λ z. decimal z ++ ((48 + n % 10) ∷ [])) q ∙ ap (λ z. decimal v ++ (z ∷ [])) d

one_digit : (v b : ℕ) → v ≡ 0 → IsInRange 48 57 b → decimal (v * 10 + (b - 48)) ≡ b ∷ []
one_digit v b none (low, high) =
    let n = v * 10 + (b - 48) in
    let d : 48 + n ≡ b = omega arith in
    decimal_digit n (omega arith) ∙ ap (λ (z : ℕ). z ∷ []) d

next_digits : (k v b : ℕ) → v < 10 ^ k → k < 7 → IsInRange 48 57 b → (0 < k → v ≡ 0 → ⊥) → decimal (v * 10 + (b - 48)) ≡ written k v ++ (b ∷ [])
next_digits zero v b small room digit nonzero = one_digit v b (omega (arith, small)) digit
next_digits (suc k) v b small room digit nonzero =
    let some : 0 < v = grind (arith, nonzero) in
    one_more v b some (below (suc k) v (omega arith) small) digit

pub read_more : (k v : ℕ) (t rest : List ℕ) (b : ℕ) (tail : List ℕ) → Read k v t rest → rest ≡ b ∷ tail → More k v b → Read (suc k) (v * 10 + (b - 48)) t tail
read_more k v t rest b tail r e more =
    let d = next_digits k v b r.small more.room more.digit more.plain in
    record {
      parts = r.parts ∙ ap (λ z. written k v ++ z) e ∙ sym (push_rest (written k v) b tail) ∙ ap (λ z. z ++ tail) (sym d);
      long = omega (arith, simp length-append at (ap length d), r.long);
      few = more.room;
      small = omega (arith, pow-succ' 10 k, r.small, more.digit.1);
    }

pub written_some : (k v : ℕ) → 0 < k → written k v ≡ decimal v
written_some zero v h = absurd (omega (arith, h))
written_some (suc k) v h = refl

pub bad_at : (m k v a : ℕ) {rest : List ℕ} (tail : List ℕ) → Bad m k v a → rest ≡ a ∷ tail → (b : ℕ) (more : List ℕ) → rest ≡ b ∷ more → Bad m k v b
bad_at m k v a tail bad e b more f = subst (Bad m k v) (head_same a b tail more (sym e ∙ f)) bad
