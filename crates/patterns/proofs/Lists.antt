-- What holds of each element of a list, and of each two; sums over a list.
use Rattle.std.proofs.Common.{◌≡◌, ℕ, zero, suc, ◌+◌, ◌<◌, Bool, true, false, ◌⊎◌, List, [], ◌∷◌, ◌++◌, map, length, get_or, filter, refl, inl, inr, ⊎_elim, All, arith}
use Rattle.std.proofs.lemmas.List.Elements.{recursion_from_All}
use Rattle.std.specs.List.{ContainsAt as Has, AllByRecursion}
use Rattle.std.proofs.ByRecursion.{All-get_or, All-weaker}
use Rattle.patterns.specs.Numbers.{keep}
use Rattle.patterns.specs.Sequences.{sum}

pub all_each : {A : Type 0} {P Q : A → Type 0} → ((a : A) → P a → Q a) → (xs : List A) → AllByRecursion P xs → AllByRecursion Q xs
all_each {A} {P} {Q} f xs ok = All-weaker P Q f xs ok

pub all_both : {A : Type 0} (P Q : A → Type 0) (xs : List A) → AllByRecursion P xs → AllByRecursion Q xs → AllByRecursion (λ (a : A). P a × Q a) xs
all_both P Q [] a b = tt
all_both P Q (x ∷ xs) a b = ((a.0, b.0), all_both P Q xs a.1 b.1)

-- R holds of each element and each later one: by recursion, since lists in order are built at the front
abbrev pub Pairs : {A : Type 0} → (A → A → Type 0) → List A → Type 0
Pairs R [] = Unit {0}
Pairs R (x ∷ xs) = AllByRecursion (R x) xs × Pairs R xs

pub pairs_at : {A : Type 0} (R : A → A → Type 0) (xs : List A) → Pairs R xs → (i j : ℕ) (d : A) → i < j → j < length xs → R (get_or xs i d) (get_or xs j d)
pairs_at R [] ok i j d lt h = absurd (omega arith)
pairs_at R (x ∷ xs) ok i zero d lt h = absurd (omega arith)
pairs_at R (x ∷ xs) ok zero (suc j) d lt h = All-get_or (R x) xs j d (omega arith) ok.0
pairs_at R (x ∷ xs) ok (suc i) (suc j) d lt h = pairs_at R xs ok.1 i j d (omega arith) (omega arith)

pub both_at : {A : Type 0} (R : A → A → Type 0) (xs : List A) → All (λ (a : A). All (R a) xs) xs → (i j : ℕ) (d : A) → i < length xs → j < length xs → R (get_or xs i d) (get_or xs j d)
both_at R xs ok i j d il jl = ok i d il j d jl

-- ---- sums

pub sum_one : {A : Type 0} (xs : List A) → sum (λ (a : A). 1) xs ≡ length xs
sum_one [] = refl
sum_one (x ∷ xs) = omega (arith, sum_one xs)

pub sum_join : {A : Type 0} (f : A → ℕ) (xs ys : List A) → sum f (xs ++ ys) ≡ sum f xs + sum f ys
sum_join f [] ys = omega arith
sum_join f (x ∷ xs) ys = omega (arith, sum_join f xs ys)

-- ---- membership

-- a is in xs: by recursion, and not by its place, so that a proof goes down the list with it
pub data In {A : Type 0} (a : A) : List A → Type 0 where
  here : {xs : List A} → In a (a ∷ xs)
  there : {x : A} {xs : List A} → In a xs → In a (x ∷ xs)

-- from each that is in the list, and back
pub all_in : {A : Type 0} (P : A → Type 0) (xs : List A) → ((a : A) → In a xs → P a) → AllByRecursion P xs
all_in P [] f = tt
all_in P (x ∷ xs) f = (f x here, all_in P xs (λ a i. f a (there i)))

pub in_all : {A : Type 0} (P : A → Type 0) {a : A} {xs : List A} → In a xs → AllByRecursion P xs → P a
in_all P here ok = ok.0
in_all P (there i) ok = in_all P i ok.1

-- the same of what holds of each by its place
pub in_every : {A : Type 0} (P : A → Type 0) {a : A} {xs : List A} → In a xs → All P xs → P a
in_every P {xs = xs} i ok = in_all P i (recursion_from_All P xs ok)

pub in_map : {A B : Type 0} (f : A → B) {a : A} {xs : List A} → In a xs → In (f a) (map f xs)
in_map f here = here
in_map f (there i) = there (in_map f i)

pub in_at : {A : Type 0} (xs : List A) (i : ℕ) (d : A) → i < length xs → In (get_or xs i d) xs
in_at [] i d h = absurd (omega arith)
in_at (x ∷ xs) zero d h = here
in_at (x ∷ xs) (suc i) d h = there (in_at xs i d (omega arith))

pub in_has : {A : Type 0} {a : A} {xs : List A} → In a xs → Has xs a
in_has here = (0, omega arith, λ d. refl)
in_has (there i) = let r = in_has i in (suc r.0, omega (arith, r.1), λ d. r.2 d)

-- in the first of two lists, or in the second
pub in_join : {A : Type 0} {a : A} (xs ys : List A) → In a (xs ++ ys) → In a xs ⊎ In a ys
in_join [] ys i = inr i
in_join (x ∷ xs) ys here = inl here
in_join (x ∷ xs) ys (there i) = ⊎_elim (λ j. inl (there j)) (λ j. inr j) (in_join xs ys i)

pub join_left : {A : Type 0} {a : A} {xs : List A} (ys : List A) → In a xs → In a (xs ++ ys)
join_left ys here = here
join_left ys (there i) = there (join_left ys i)

pub join_right : {A : Type 0} {a : A} (xs : List A) {ys : List A} → In a ys → In a (xs ++ ys)
join_right [] i = i
join_right (x ∷ xs) i = there (join_right xs i)

-- ---- what a test keeps

pub all_keep : {A : Type 0} (P : A → Type 0) (b : Bool) (a : A) (rest : List A) → (b ≡ true → P a) → AllByRecursion P rest → AllByRecursion P (keep b a rest)
all_keep P true a rest first later = (first refl, later)
all_keep P false a rest first later = later

pub in_keep : {A : Type 0} {a : A} (b : Bool) (x : A) (xs : List A) → In a xs → In a (keep b x xs)
in_keep true x xs i = there i
in_keep false x xs i = i

pub in_kept : {A : Type 0} (b : Bool) (x : A) (xs : List A) → b ≡ true → In x (keep b x xs)
in_kept true x xs e = here
in_kept false x xs e = let z : ◌≡◌ {A = ℕ} 0 1 = cc in absurd (omega arith)

module _ {A : Type 0} (test : A → Bool) where
  -- what passes the test stays
  pub in_kept_by : {a : A} {xs : List A} → In a xs → test a ≡ true → In a (filter test xs)
  in_kept_by {a} (here {xs = xs}) e = in_kept (test a) a (filter test xs) e
  in_kept_by (there {x = x} {xs = xs} i) e = in_keep (test x) x (filter test xs) (in_kept_by i e)

  -- what stays passed the test
  pub all_tested : (P : A → Type 0) (xs : List A) → AllByRecursion P xs → AllByRecursion (λ (a : A). P a × (test a ≡ true)) (filter test xs)
  all_tested P [] ok = tt
  all_tested P (x ∷ xs) ok = all_keep (λ (a : A). P a × (test a ≡ true)) (test x) x (filter test xs) (λ e. (ok.0, e)) (all_tested P xs ok.1)
