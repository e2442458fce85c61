-- A line as parts, one after another: each a set of texts of which none begins another, so that a text is cut into them in one way.
use Rattle.std.proofs.Common.{◌≡◌, ℕ, Bool, true, false, List, [], ◌∷◌, ◌++◌, decimal, sym, refl, ap, ◌∙◌, arith, lit<}
use Rattle.std.proofs.lemmas.Fmt.{decimal_injective}
use Rattle.text.specs.declared.fields.End.{End}
use Rattle.text.specs.declared.fields.End.TheVariants.{Blank, Line}
use Rattle.text.specs.Texts.{Stops}
use Rattle.text.specs.declared.fields.Letters.{Letters}
use Rattle.text.specs.declared.fields.Letters.TheVariants.{Turn, Spare}
use Rattle.text.specs.Fields.{mark, letter, SevenDigits, Word, Number, Letter, Choice}
use Rattle.text.proofs.Codes.{Then, Code, push_rest, head_same, tail_same, not_nil, same_front, then_code, stops_same, stops_first, stops_later}
use Rattle.text.proofs.Numerals.{number_code}
use Rattle.text.proofs.Words.{word_code, letter_code}

-- a fixed word, or a number or a choice with the mark after it
pub data Part : Type 0 where
  word : List ℕ → Part
  number : End → Part
  choice : Letters → End → Part

-- the texts of a part
abbrev pub Is : Part → List ℕ → Type 0
Is (word w) = Word w
Is (number e) = Number (mark e)
Is (choice l e) = Choice l (mark e)

-- the texts of several parts, one after another
abbrev pub Parts : List Part → List ℕ → Type 0
Parts [] t = t ≡ []
Parts (p ∷ ps) t = Then (Is p) (Parts ps) t

mark_code : (e : End) → Code (Number (mark e))
mark_code Blank = number_code 32 (λ h. omega (arith, h.0))
mark_code Line = number_code 10 (λ h. omega (arith, h.0))

pub choice_code : (l : Letters) (m : ℕ) → Code (Choice l m)
choice_code l m u v (a, e) (b, f) =
    tail_same m m v [] (tail_same (letter l a) (letter l b) (m ∷ v) (m ∷ []) (ap (λ z. z ++ v) (sym e) ∙ f))

part_code : (p : Part) → Code (Is p)
part_code (word w) = word_code w
part_code (number e) = mark_code e
part_code (choice l e) = choice_code l (mark e)

nil_code : Code (λ t. t ≡ [])
nil_code u v e f = sym (ap (λ z. z ++ v) e) ∙ f

pub parts_code : (ps : List Part) → Code (Parts ps)
parts_code [] = nil_code
parts_code (p ∷ ps) = then_code (Is p) (Parts ps) (part_code p) (parts_code ps)

-- each part has some text
some_part : (p : Part) → (t : List ℕ) × Is p t
some_part (word w) = (w, refl)
some_part (number e) = (decimal 0 ++ (mark e ∷ []), (0, lit< tt, refl))
some_part (choice l e) = (letter l true ∷ (mark e ∷ []), (true, refl))

some_parts : (ps : List Part) → (t : List ℕ) × Parts ps t
some_parts [] = ([], refl)
some_parts (p ∷ ps) = let a = some_part p in let b = some_parts ps in (a.0 ++ b.0, (a.0, b.0, a.1, b.1, refl))

-- the fault is in the first part
pub here : {t left : List ℕ} (p : Part) (ps : List Part) → Stops (Is p) t left → Stops (Parts (p ∷ ps)) t left
here {t} {left} p ps s = let v = some_parts ps in stops_first (Is p) (Parts ps) (part_code p) t left v.0 v.1 s

-- the fault is behind a word, a number, a choice
pub past_word : {t u left : List ℕ} (w : List ℕ) (ps : List Part) → t ≡ w ++ u → Stops (Parts ps) u left → Stops (Parts (word w ∷ ps)) t left
past_word {t} {u} {left} w ps e s = stops_later (Word w) (Parts ps) (word_code w) t w u left refl e s

pub past_number : {t u left : List ℕ} (m : End) (ps : List Part) (n : ℕ) → SevenDigits n × (t ≡ decimal n ++ (mark m ∷ u)) → Stops (Parts ps) u left → Stops (Parts (number m ∷ ps)) t left
past_number {t} {u} {left} m ps n (h, e) s =
    stops_later (Number (mark m)) (Parts ps) (mark_code m) t (decimal n ++ (mark m ∷ [])) u left (n, h, refl) (e ∙ sym (push_rest (decimal n) (mark m) u)) s

pub past_choice : {t u left : List ℕ} (l : Letters) (m : End) (ps : List Part) (b : Bool) → t ≡ letter l b ∷ (mark m ∷ u) → Stops (Parts ps) u left → Stops (Parts (choice l m ∷ ps)) t left
past_choice {t} {u} {left} l m ps b e s = stops_later (Choice l (mark m)) (Parts ps) (choice_code l (mark m)) t (letter l b ∷ (mark m ∷ [])) u left (b, refl) e s

-- a word, a number, a choice before more parts
pub with_word : (w : List ℕ) (ps : List Part) (u : List ℕ) → Parts ps u → Parts (word w ∷ ps) (w ++ u)
with_word w ps u more = (w, u, refl, more, refl)

pub with_number : (m : End) (ps : List Part) (n : ℕ) (u : List ℕ) → SevenDigits n → Parts ps u → Parts (number m ∷ ps) (decimal n ++ (mark m ∷ u))
with_number m ps n u h more = (decimal n ++ (mark m ∷ []), u, (n, h, refl), more, sym (push_rest (decimal n) (mark m) u))

pub with_choice : (l : Letters) (m : End) (ps : List Part) (b : Bool) (u : List ℕ) → Parts ps u → Parts (choice l m ∷ ps) (letter l b ∷ (mark m ∷ u))
with_choice l m ps b u more = (letter l b ∷ (mark m ∷ []), u, (b, refl), more, refl)

-- and taken off again
pub off_word : (w : List ℕ) (ps : List Part) (t : List ℕ) → Parts (word w ∷ ps) t → (u : List ℕ) × Parts ps u × (t ≡ w ++ u)
off_word w ps t (a, u, e, more, f) = (u, more, f ∙ ap (λ z. z ++ u) e)

pub off_number : (m : End) (ps : List Part) (t : List ℕ) → Parts (number m ∷ ps) t → (n : ℕ) × (u : List ℕ) × SevenDigits n × Parts ps u × (t ≡ decimal n ++ (mark m ∷ u))
off_number m ps t (a, u, (n, h, e), more, f) = (n, u, h, more, f ∙ ap (λ z. z ++ u) e ∙ push_rest (decimal n) (mark m) u)

pub off_choice : (l : Letters) (m : End) (ps : List Part) (t : List ℕ) → Parts (choice l m ∷ ps) t → (b : Bool) × (u : List ℕ) × Parts ps u × (t ≡ letter l b ∷ (mark m ∷ u))
off_choice l m ps t (a, u, (b, e), more, f) = (b, u, more, f ∙ ap (λ z. z ++ u) e)

same_letter : (l : Letters) (a b : Bool) → letter l a ≡ letter l b → a ≡ b
same_letter l true true e = refl
same_letter l false false e = refl
same_letter Turn true false e = absurd (omega (arith, e))
same_letter Turn false true e = absurd (omega (arith, e))
same_letter Spare true false e = absurd (omega (arith, e))
same_letter Spare false true e = absurd (omega (arith, e))

same_init : (a b : List ℕ) (m : ℕ) → a ++ (m ∷ []) ≡ b ++ (m ∷ []) → a ≡ b
same_init [] [] m e = refl
same_init [] (y ∷ b) m e = absurd (not_nil m b [] (sym (tail_same m y [] (b ++ (m ∷ [])) e)))
same_init (x ∷ a) [] m e = absurd (not_nil m a [] (tail_same x m (a ++ (m ∷ [])) [] e))
same_init (x ∷ a) (y ∷ b) m e =
    let f : x ≡ y = head_same x y (a ++ (m ∷ [])) (b ++ (m ∷ [])) e in
    let g : a ≡ b = same_init a b m (tail_same x y (a ++ (m ∷ [])) (b ++ (m ∷ [])) e) in
    cc

-- one text reads as one number, and as one choice
pub same_number : (m : End) (a b : ℕ) (u v : List ℕ) → SevenDigits a → SevenDigits b → decimal a ++ (mark m ∷ u) ≡ decimal b ++ (mark m ∷ v) → (a ≡ b) × (u ≡ v)
same_number m a b u v ha hb e =
    let s = same_front (Number (mark m)) (mark_code m) (decimal a ++ (mark m ∷ [])) u (decimal b ++ (mark m ∷ [])) v (a, ha, refl) (b, hb, refl)
    (push_rest (decimal a) (mark m) u ∙ e ∙ sym (push_rest (decimal b) (mark m) v)) in
    (decimal_injective a b (omega arith) (omega arith) (same_init (decimal a) (decimal b) (mark m) (sym s.0)), sym s.1)

pub same_choice : (l : Letters) (m : ℕ) (a b : Bool) (u v : List ℕ) → ◌≡◌ {A = List ℕ} (letter l a ∷ (m ∷ u)) (letter l b ∷ (m ∷ v)) → (a ≡ b) × (u ≡ v)
same_choice l m a b u v e =
    let f = tail_same (letter l a) (letter l b) (m ∷ u) (m ∷ v) e in
    (same_letter l a b (head_same (letter l a) (letter l b) (m ∷ u) (m ∷ v) e), tail_same m m u v f)

-- a choice as its letter and the mark
choice_to : (l : Letters) (m : ℕ) (t : List ℕ) → Then (Letter l) (Word (m ∷ [])) t → Choice l m t
choice_to l m t (u, v, (b, e), f, g) = (b, g ∙ ap (λ z. z ++ v) e ∙ ap (λ z. letter l b ∷ z) f)

choice_from : (l : Letters) (m : ℕ) (t : List ℕ) → Choice l m t → Then (Letter l) (Word (m ∷ [])) t
choice_from l m t (b, e) = (letter l b ∷ [], m ∷ [], (b, refl), refl, e)

pub in_letter : {t left : List ℕ} (l : Letters) (m : ℕ) → Stops (Letter l) t left → Stops (Choice l m) t left
in_letter {t} {left} l m s =
    stops_same (Then (Letter l) (Word (m ∷ []))) (Choice l m) (choice_to l m) (choice_from l m) t left
    (stops_first (Letter l) (Word (m ∷ [])) (letter_code l) t left (m ∷ []) refl s)

pub past_letter : {t u left : List ℕ} (l : Letters) (m : ℕ) (b : Bool) → t ≡ letter l b ∷ u → Stops (Word (m ∷ [])) u left → Stops (Choice l m) t left
past_letter {t} {u} {left} l m b e s =
    stops_same (Then (Letter l) (Word (m ∷ []))) (Choice l m) (choice_to l m) (choice_from l m) t left
    (stops_later (Letter l) (Word (m ∷ [])) (letter_code l) t (letter l b ∷ []) u left (b, refl) e s)
