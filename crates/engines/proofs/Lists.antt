-- What tests keep of a list, and what stands at positions of it.
use Rattle.std.proofs.Common.{◌≡◌, ℕ, ◌<◌, Bool, true, List, [], ◌∷◌, map, length, get_or, filter, refl, ap, ◌∙◌, arith}
use Rattle.std.specs.List.{AllByRecursion}
use Rattle.std.proofs.lemmas.List.{get_or-map}
use Rattle.choosing.specs.Choice.{Known}
use Rattle.choosing.specs.declared.Candidate.{Candidate}
use Rattle.patterns.specs.Numbers.{keep}
use Rattle.patterns.specs.Strips.{at}

-- two tests that agree on a list keep the same of it
pub kept_same : {A : Type 0} (f g : A → Bool) (xs : List A) → AllByRecursion (λ (x : A). f x ≡ g x) xs → filter f xs ≡ filter g xs
kept_same f g [] same = refl
kept_same f g (x ∷ xs) same = ap (λ b. keep b x (filter f xs)) same.0 ∙ ap (λ rest. keep (g x) x rest) (kept_same f g xs same.1)

-- a test that each passes keeps all
pub kept_all : {A : Type 0} (f : A → Bool) (xs : List A) → AllByRecursion (λ (x : A). f x ≡ true) xs → filter f xs ≡ xs
kept_all f [] ok = refl
kept_all f (x ∷ xs) ok = ap (λ b. keep b x (filter f xs)) ok.0 ∙ ap (λ rest. x ∷ rest) (kept_all f xs ok.1)

-- what stands at positions before and after a map
pub at_map : {A B : Type 0} (f : A → B) (d : A) (e : B) (xs : List A) (ks : List ℕ) → AllByRecursion (λ (k : ℕ). k < length xs) ks → at e (map f xs) ks ≡ map f (at d xs ks)
at_map f d e xs [] ok = refl
at_map f d e xs (k ∷ ks) ok = ap (λ b. b ∷ at e (map f xs) ks) (get_or-map f xs k d e ok.0) ∙ ap (λ bs. f (get_or xs k d) ∷ bs) (at_map f d e xs ks ok.1)

-- positions that are known among candidates are known in any list as long
pub known_all : {A : Type 0} (cands : List (Candidate ℕ)) (xs : List A) (ks : List ℕ) → length cands ≡ length xs → Known cands ks → AllByRecursion (λ (k : ℕ). k < length xs) ks
known_all cands xs [] same known = tt
known_all cands xs (k ∷ ks) same known = (omega (arith, known.0), known_all cands xs ks same known.1)
