-- What a line says, as the values of its parts.
use Rattle.std.proofs.Common.{◌≡◌, ℕ, zero, suc, ◌<◌, Bool, List, [], ◌∷◌, ◌++◌, length, take, get_or, decimal, Result, Ok, Err, sym, refl, ap, ◌∙◌, subst, append-nil, arith}
use Rattle.std.specs.Result.{IsErrAnd}
use Rattle.text.specs.Texts.{Stops}
use Rattle.text.specs.Fields.{mark, letter, SevenDigits}
use Rattle.text.specs.Many.{LineOf}
use Rattle.text.proofs.Codes.{Code, same_rest, stops_same}
use Rattle.text.proofs.Parts.{Part, word, number, choice, Is, Parts, parts_code, here, past_word, past_number, past_choice, with_word, with_number, with_choice, off_word, off_number, off_choice, same_number, same_choice}

-- a number for each number, yes or no for each choice
abbrev pub Values : List Part → Type 0
Values [] = Unit {0}
Values (word w ∷ ps) = Values ps
Values (number m ∷ ps) = ℕ × Values ps
Values (choice l m ∷ ps) = Bool × Values ps

-- each number has at most seven digits
abbrev pub ShortValues : (ps : List Part) → Values ps → Type 0
ShortValues [] v = Unit {0}
ShortValues (word w ∷ ps) v = ShortValues ps v
ShortValues (number m ∷ ps) v = SevenDigits v.0 × ShortValues ps v.1
ShortValues (choice l m ∷ ps) v = ShortValues ps v.1

-- the parts with these values, and then a text
abbrev pub written : (ps : List Part) → Values ps → List ℕ → List ℕ
written [] v rest = rest
written (word w ∷ ps) v rest = w ++ written ps v rest
written (number m ∷ ps) v rest = decimal v.0 ++ (mark m ∷ written ps v.1 rest)
written (choice l m ∷ ps) v rest = letter l v.0 ∷ (mark m ∷ written ps v.1 rest)

to_parts : (ps : List Part) (v : Values ps) → ShortValues ps v → Parts ps (written ps v [])
to_parts [] v s = refl
to_parts (word w ∷ ps) v s = with_word w ps (written ps v []) (to_parts ps v s)
to_parts (number m ∷ ps) v s = with_number m ps v.0 (written ps v.1 []) s.0 (to_parts ps v.1 s.1)
to_parts (choice l m ∷ ps) v s = with_choice l m ps v.0 (written ps v.1 []) (to_parts ps v.1 s)

from_parts : (ps : List Part) (t : List ℕ) → Parts ps t → (v : Values ps) × ShortValues ps v × (t ≡ written ps v [])
from_parts [] t e = (tt, tt, e)
from_parts (word w ∷ ps) t h =
    let a = off_word w ps t h in
    let b = from_parts ps a.0 a.1 in
    (b.0, b.1, a.2 ∙ ap (λ z. w ++ z) b.2)
from_parts (number m ∷ ps) t h =
    let a = off_number m ps t h in
    let b = from_parts ps a.1 a.3 in
    ((a.0, b.0), (a.2, b.1), a.4 ∙ ap (λ z. decimal a.0 ++ (mark m ∷ z)) b.2)
from_parts (choice l m ∷ ps) t h =
    let a = off_choice l m ps t h in
    let b = from_parts ps a.1 a.2 in
    ((a.0, b.0), b.1, a.3 ∙ ap (λ z. letter l a.0 ∷ (mark m ∷ z)) b.2)

same_pair : {A B : Type 0} (v w : A × B) → v.0 ≡ w.0 → v.1 ≡ w.1 → v ≡ w
same_pair v w e f = ap (λ a. (a, v.1)) e ∙ ap (λ b. (w.0, b)) f

-- one text reads as one list of values
same_values : (ps : List Part) (v w : Values ps) (x y : List ℕ) → ShortValues ps v → ShortValues ps w → written ps v x ≡ written ps w y → (v ≡ w) × (x ≡ y)
same_values [] v w x y s r e = (refl, e)
same_values (word u ∷ ps) v w x y s r e = same_values ps v w x y s r (same_rest u _ _ e)
same_values (number m ∷ ps) v w x y s r e =
    let a = same_number m v.0 w.0 _ _ s.0 r.0 e in
    let b = same_values ps v.1 w.1 x y s.1 r.1 a.1 in
    (same_pair v w a.0 b.0, b.1)
same_values (choice l m ∷ ps) v w x y s r e =
    let a = same_choice l (mark m) v.0 w.0 _ _ e in
    let b = same_values ps v.1 w.1 x y s r a.1 in
    (same_pair v w a.0 b.0, b.1)

-- the fault is in part k, behind parts with these values
part_stops : (ps : List Part) (k : ℕ) (v : Values (take k ps)) (t u left : List ℕ) → ShortValues (take k ps) v → k < length ps → t ≡ written (take k ps) v u
    → Stops (Is (get_or ps k (word []))) u left → Stops (Parts ps) t left
part_stops [] k v t u left s lt e h = absurd (omega (arith, lt))
part_stops (p ∷ ps) zero v t u left s lt e h = here p ps (subst (λ z. Stops (Is p) z left) (sym e) h)
part_stops (word w ∷ ps) (suc k) v t u left s lt e h = past_word w ps e (part_stops ps k v (written (take k ps) v u) u left s (omega (arith, lt)) refl h)
part_stops (number m ∷ ps) (suc k) v t u left s lt e h = past_number m ps v.0 (s.0, e) (part_stops ps k v.1 (written (take k ps) v.1 u) u left s.1 (omega (arith, lt)) refl h)
part_stops (choice l m ∷ ps) (suc k) v t u left s lt e h = past_choice l m ps v.0 e (part_stops ps k v.1 (written (take k ps) v.1 u) u left s (omega (arith, lt)) refl h)

-- what a line of some kind says and the values of its parts are the same
pub record Form {X : Type 0} (f : X → List ℕ) (Short : X → Type 0) (ps : List Part) : Type 0 where
  pub values : X → Values ps
  pub of : Values ps → X
  pub back : (x : X) → of (values x) ≡ x
  pub there : (v : Values ps) → values (of v) ≡ v
  pub text : (x : X) (rest : List ℕ) → f x ++ rest ≡ written ps (values x) rest
  pub short : (x : X) → Short x → ShortValues ps (values x)
  pub kept : (v : Values ps) → ShortValues ps v → Short (of v)

module _ {X : Type 0} {f : X → List ℕ} {Short : X → Type 0} {ps : List Part} (form : Form f Short ps) where
  line_in : (t : List ℕ) → LineOf f Short t → Parts ps t
  line_in t (x, s, e) = subst (Parts ps) (sym (e ∙ sym (append-nil (f x)) ∙ form.text x [])) (to_parts ps (form.values x) (form.short x s))

  line_out : (t : List ℕ) → Parts ps t → LineOf f Short t
  line_out t h =
      let a = from_parts ps t h in
      (form.of a.0, form.kept a.0 a.1, a.2 ∙ ap (λ v. written ps v []) (sym (form.there a.0)) ∙ sym (form.text (form.of a.0) []) ∙ append-nil (f (form.of a.0)))

  pub line_code : Code (LineOf f Short)
  line_code u v a b = parts_code ps u v (line_in u a) (line_in (u ++ v) b)

  pub same_line : (x y : X) (u v : List ℕ) → Short x → Short y → f x ++ u ≡ f y ++ v → (x ≡ y) × (u ≡ v)
  same_line x y u v sx sy e =
      let a = same_values ps (form.values x) (form.values y) u v (form.short x sx) (form.short y sy) (sym (form.text x u) ∙ e ∙ form.text y v) in
      (sym (form.back x) ∙ ap form.of a.0 ∙ form.back y, a.1)

  -- the fault is in part k of the line, behind parts with these values
  pub faulty_part : {t u left : List ℕ} (k : ℕ) (v : Values (take k ps)) → ShortValues (take k ps) v → k < length ps → t ≡ written (take k ps) v u
      → Stops (Is (get_or ps k (word []))) u left → Stops (LineOf f Short) t left
  faulty_part {t} {u} {left} k v s lt e h = stops_same (Parts ps) (LineOf f Short) line_out line_in t left (part_stops ps k v t u left s lt e h)

  -- a line that was read part by part
  pub whole_line : {t : List ℕ} (rest : List ℕ) (v : Values ps) → ShortValues ps v → t ≡ written ps v rest → Short (form.of v) × (t ≡ f (form.of v) ++ rest)
  whole_line {t} rest v s e = (form.kept v s, e ∙ ap (λ w. written ps w rest) (sym (form.there v)) ∙ sym (form.text (form.of v) rest))

-- an error that `?` passes on as it is
pub passed_on : {T E : Type 0} {e : E} (r : Result T E) → IsErrAnd r (λ y. y ≡ e) → r ≡ Err e
passed_on (Ok x) h = absurd h
passed_on (Err y) h = ap Err h
