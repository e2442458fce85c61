-- Lines one after another.
use Rattle.std.proofs.Common.{◌≡◌, ℕ, ◌<◌, ◌≤◌, List, [], ◌∷◌, ◌++◌, length, All, sym, refl, ap, ◌∙◌, append_assoc, append-nil, arith, length-append}
use Rattle.std.proofs.lemmas.List.Elements.{All-nil, All-cons, All-head, All-tail, All-push}
use Rattle.text.specs.Fields.{lines}
use Rattle.text.specs.Many.{LineOf, FaultyLine}
use Rattle.text.proofs.Codes.{Then}

module _ {X : Type 0} (f : X → List ℕ) where
  pub lines_append : (xs ys : List X) → lines f (xs ++ ys) ≡ lines f xs ++ lines f ys
  lines_append [] ys = refl
  lines_append (x ∷ xs) ys = ap (λ z. f x ++ z) (lines_append xs ys) ∙ sym (append_assoc (f x) (lines f xs) (lines f ys))

  -- one line more
  pub lines_push : (xs : List X) (x : X) (t rest after : List ℕ) → t ≡ lines f xs ++ rest → rest ≡ f x ++ after → t ≡ lines f (xs ++ (x ∷ [])) ++ after
  lines_push xs x t rest after e g = e ∙ ap (λ z. lines f xs ++ z) g ∙ simp (append_assoc, lines_append, append-nil)

  module _ (some : (x : X) → 0 < length (f x)) where
    pub lines_long : (xs : List X) → length xs ≤ length (lines f xs)
    lines_long [] = omega arith
    lines_long (x ∷ xs) = simp length-append (omega (arith, lines_long xs, some x))

    pub shorter : (x : X) (rest after : List ℕ) → rest ≡ f x ++ after → length after < length rest
    shorter x rest after e = omega (arith, some x, simp length-append at (ap length e))

    -- a line at fault is within the text
    pub faulty_early : {Short : X → Type 0} {Next : List ℕ → Type 0} (t left : List ℕ) (n : ℕ) → FaultyLine f Short Next t n left → n ≤ length t
    faulty_early t left n b = omega (arith, b.count, lines_long b.whole, simp length-append at (ap length b.parts))

    -- no line begins nothing
    pub none_in_nothing : (x : X) (w : List ℕ) → [] ≡ f x ++ w → ⊥
    none_in_nothing x w e = omega (arith, some x, simp length-append at (ap length e))

    pub no_lines : (xs : List X) → [] ≡ lines f xs → xs ≡ []
    no_lines [] e = refl
    no_lines (x ∷ xs) e = absurd (none_in_nothing x (lines f xs) e)

  module _ (Short : X → Type 0) where
    -- the texts of some lines
    abbrev pub Lines : List ℕ → Type 0
    Lines t = (xs : List X) × All Short xs × (t ≡ lines f xs)

    pub nothing : Lines []
    nothing = ([], All-nil Short, refl)

    pub first_line : (t : List ℕ) → 0 < length t → Lines t → Then (LineOf f Short) Lines t
    first_line t some ([], s, e) = absurd (omega (arith, some, ap length e))
    first_line t some (x ∷ xs, s, e) = (f x, lines f xs, (x, All-head Short x xs s, refl), (xs, All-tail Short x xs s, refl), e)

    pub from_first : (t : List ℕ) → Then (LineOf f Short) Lines t → Lines t
    from_first t (a, b, (x, s, e), (xs, ss, g), h) = (x ∷ xs, All-cons Short x xs s ss, h ∙ ap (λ z. z ++ b) e ∙ ap (λ z. f x ++ z) g)

    -- t is the lines xs, and then rest
    pub record Ahead (t : List ℕ) (xs : List X) (rest : List ℕ) : Type 0 where
      pub short : All Short xs
      pub parts : t ≡ lines f xs ++ rest

    pub ahead_none : (t : List ℕ) → Ahead t [] t
    ahead_none t = record { short = All-nil Short; parts = refl }

    pub ahead_more : (t rest after : List ℕ) (xs : List X) (x : X) → Ahead t xs rest → Short x × (rest ≡ f x ++ after) → Ahead t (xs ++ (x ∷ [])) after
    ahead_more t rest after xs x a (s, e) = record { short = All-push Short xs x a.short s; parts = lines_push xs x t rest after a.parts e }

    -- lines of which each can be told from the next: a text is made of them in one way
    module _ (same : (x y : X) (u v : List ℕ) → Short x → Short y → f x ++ u ≡ f y ++ v → (x ≡ y) × (u ≡ v)) where
      pub record Peeled (xs ys : List X) (u v : List ℕ) : Type 0 where
        pub more : List X
        pub whole : ys ≡ xs ++ more
        pub rest : u ≡ lines f more ++ v
        pub short : All Short more

      -- the lines xs stand at the front of lines ys, after which v begins with no such line
      pub peel : (xs ys : List X) (u v : List ℕ) → All Short xs → All Short ys → ((x : X) (w : List ℕ) → Short x → v ≡ f x ++ w → ⊥) → lines f xs ++ u ≡ lines f ys ++ v
          → Peeled xs ys u v
      peel [] ys u v sx sy none e = record { more = ys; whole = refl; rest = e; short = sy }
      peel (x ∷ xs) [] u v sx sy none e = absurd (none x (lines f xs ++ u) (All-head Short x xs sx) (sym e ∙ append_assoc (f x) (lines f xs) u))
      peel (x ∷ xs) (y ∷ ys) u v sx sy none e =
          let s = same x y (lines f xs ++ u) (lines f ys ++ v) (All-head Short x xs sx) (All-head Short y ys sy)
          (sym (append_assoc (f x) (lines f xs) u) ∙ e ∙ append_assoc (f y) (lines f ys) v) in
          let p = peel xs ys u v (All-tail Short x xs sx) (All-tail Short y ys sy) none s.1 in
          let w : ◌≡◌ {A = List X} (y ∷ ys) (x ∷ (xs ++ p.more)) = cc (s.0, p.whole) in
          record { more = p.more; whole = w; rest = p.rest; short = p.short }

      module _ (some : (x : X) → 0 < length (f x)) where
        -- what follows on lines within lines is lines
        pub past_lines : (xs : List X) (x : List ℕ) → All Short xs → Lines (lines f xs ++ x) → Lines x
        past_lines xs x s (ys, t, e) =
            let p = peel xs ys x [] s t (λ y w _. none_in_nothing some y w) (e ∙ sym (append-nil (lines f ys))) in
            (p.more, p.short, p.rest ∙ append-nil (lines f p.more))

        pub same_lines : (xs ys : List X) → All Short xs → All Short ys → lines f xs ≡ lines f ys → xs ≡ ys
        same_lines xs ys s t e =
            let p = peel xs ys [] [] s t (λ y w _. none_in_nothing some y w) (append-nil (lines f xs) ∙ e ∙ sym (append-nil (lines f ys))) in
            sym (p.whole ∙ ap (λ z. xs ++ z) (no_lines some p.more (p.rest ∙ append-nil (lines f p.more))) ∙ append-nil xs)
