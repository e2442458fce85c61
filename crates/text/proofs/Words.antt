-- Where a fixed word and a letter stop.
use Rattle.std.proofs.Common.{◌≡◌, ℕ, suc, ◌<◌, true, false, List, [], ◌∷◌, ◌++◌, length, get_or, take, drop, sym, refl, ap, ◌∙◌, append-nil, take-append-drop, drop-cons}
use Rattle.text.specs.Texts.{Stops}
use Rattle.text.specs.declared.fields.Letters.{Letters}
use Rattle.text.specs.Fields.{Word, Letter, letter}
use Rattle.text.proofs.Codes.{Code, head_same, tail_same, same_rest, push_rest}

pub word_code : (w : List ℕ) → Code (Word w)
word_code w u v e f = same_rest w v [] (ap (λ z. z ++ v) (sym e) ∙ f ∙ sym (append-nil w))

module _ (w : List ℕ) (i : ℕ) (h : i < length w) where
  parted : take i w ++ (get_or w i 0 ∷ drop (suc i) w) ≡ w
  parted = ap (λ z. take i w ++ z) (sym (drop-cons w i 0 h)) ∙ take-append-drop i w

  pub word_stops : (t rest : List ℕ) → t ≡ take i w ++ rest → ((b : ℕ) (more : List ℕ) → rest ≡ b ∷ more → b ≡ get_or w i 0 → ⊥) → Stops (Word w) t rest
  word_stops t rest e bad = record {
    read = take i w;
    parts = e;
    next = get_or w i 0;
    after = drop (suc i) w;
    could = parted;
    cannot = λ b more f k. bad b more f (head_same b (get_or w i 0) k.0 (drop (suc i) w)
        (same_rest (take i w) (b ∷ k.0) (get_or w i 0 ∷ drop (suc i) w) (sym (push_rest (take i w) b k.0) ∙ k.1 ∙ sym parted)));
  }

module _ (l : Letters) where
  neither : (b : ℕ) (r : List ℕ) → Letter l (b ∷ r) → (b ≡ letter l true → ⊥) → (b ≡ letter l false → ⊥) → ⊥
  neither b r (true, e) not_yes not_no = not_yes (head_same b (letter l true) r [] e)
  neither b r (false, e) not_yes not_no = not_no (head_same b (letter l false) r [] e)

  pub letter_code : Code (Letter l)
  letter_code u v (a, e) (b, f) = tail_same (letter l a) (letter l b) v [] (ap (λ z. z ++ v) (sym e) ∙ f)

  pub letter_stops : (t : List ℕ) → ((b : ℕ) (more : List ℕ) → t ≡ b ∷ more → (b ≡ letter l true → ⊥) × (b ≡ letter l false → ⊥)) → Stops (Letter l) t t
  letter_stops t bad = record {
    read = [];
    parts = refl;
    next = letter l true;
    after = [];
    could = (true, refl);
    cannot = λ b more f k. neither b k.0 k.1 (bad b more f).0 (bad b more f).1;
  }
