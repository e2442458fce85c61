-- Sets of texts of which none begins another: a text can be cut into such parts in one way.
use Rattle.std.proofs.Common.{◌≡◌, ℕ, ◌⊎◌, List, [], ◌∷◌, ◌++◌, length, sym, refl, ap, ◌∙◌, subst, inl, inr, append_assoc, append-nil, arith, length-append}
use Rattle.text.specs.Texts.{Begins, Stops}

-- a text of A, then a text of B
abbrev pub Then : (List ℕ → Type 0) → (List ℕ → Type 0) → List ℕ → Type 0
Then A B t = (u : List ℕ) × (v : List ℕ) × A u × B v × (t ≡ u ++ v)

-- two ways to cut one list
abbrev pub Cut : List ℕ → List ℕ → List ℕ → List ℕ → Type 0
Cut a b c d = ((x : List ℕ) × (a ≡ c ++ x) × (d ≡ x ++ b)) ⊎ ((x : List ℕ) × (c ≡ a ++ x) × (b ≡ x ++ d))

pub head_same : (x y : ℕ) (xs ys : List ℕ) → ◌≡◌ {A = List ℕ} (x ∷ xs) (y ∷ ys) → x ≡ y
head_same x y xs ys e = cc

pub tail_same : (x y : ℕ) (xs ys : List ℕ) → ◌≡◌ {A = List ℕ} (x ∷ xs) (y ∷ ys) → xs ≡ ys
tail_same x y xs ys e = cc

cut_more : (x y : ℕ) (a b c d : List ℕ) → x ≡ y → Cut a b c d → Cut (x ∷ a) b (y ∷ c) d
cut_more x y a b c d e (inl (z, p, q)) = let f : ◌≡◌ {A = List ℕ} (x ∷ a) (y ∷ (c ++ z)) = cc in inl (z, f, q)
cut_more x y a b c d e (inr (z, p, q)) = let f : ◌≡◌ {A = List ℕ} (y ∷ c) (x ∷ (a ++ z)) = cc in inr (z, f, q)

pub cuts : (a b c d : List ℕ) → a ++ b ≡ c ++ d → Cut a b c d
cuts [] b c d e = inr (c, refl, e)
cuts (x ∷ a) b [] d e = inl (x ∷ a, refl, sym e)
cuts (x ∷ a) b (y ∷ c) d e =
    cut_more x y a b c d (head_same x y (a ++ b) (c ++ d) e) (cuts a b c d (tail_same x y (a ++ b) (c ++ d) e))

pub same_rest : (a b c : List ℕ) → a ++ b ≡ a ++ c → b ≡ c
same_rest [] b c e = e
same_rest (x ∷ a) b c e = same_rest a b c (tail_same x x (a ++ b) (a ++ c) e)

pub not_nil : (x : ℕ) (a b : List ℕ) → a ++ (x ∷ b) ≡ [] → ⊥
not_nil x a b e = omega (arith, simp length-append at (ap length e))

-- no text of A begins another
abbrev pub Code : (List ℕ → Type 0) → Type 0
Code A = (u v : List ℕ) → A u → A (u ++ v) → v ≡ []

-- two texts of A at the front of one list are one
same_front_by : (A : List ℕ → Type 0) → Code A → (a b c d : List ℕ) → A a → A c → Cut a b c d → (c ≡ a) × (d ≡ b)
same_front_by A code a b c d ha hc (inl (x, p, q)) =
    let n : x ≡ [] = code c x hc (subst A p ha) in (sym (p ∙ ap (λ z. c ++ z) n ∙ append-nil c), q ∙ ap (λ z. z ++ b) n)
same_front_by A code a b c d ha hc (inr (x, p, q)) =
    let n : x ≡ [] = code a x ha (subst A p hc) in (p ∙ ap (λ z. a ++ z) n ∙ append-nil a, sym (q ∙ ap (λ z. z ++ d) n))

pub same_front : (A : List ℕ → Type 0) → Code A → (a b c d : List ℕ) → A a → A c → a ++ b ≡ c ++ d → (c ≡ a) × (d ≡ b)
same_front A code a b c d ha hc e = same_front_by A code a b c d ha hc (cuts a b c d e)

-- one byte more after p, and then r
pub push_rest : (p : List ℕ) (b : ℕ) (r : List ℕ) → (p ++ (b ∷ [])) ++ r ≡ p ++ (b ∷ r)
push_rest p b r = simp append_assoc

pub stops_same : (A B : List ℕ → Type 0) → ((t : List ℕ) → A t → B t) → ((t : List ℕ) → B t → A t) → (t left : List ℕ) → Stops A t left → Stops B t left
stops_same A B to from t left s = record {
  read = s.read;
  parts = s.parts;
  next = s.next;
  after = s.after;
  could = to _ s.could;
  cannot = λ b more e w. s.cannot b more e (w.0, from _ w.1);
}

module _ (A B : List ℕ → Type 0) (code : Code A) where
  pub then_code : Code B → Code (Then A B)
  then_code codeB u v (a, b, ha, hb, e) (c, d, hc, hd, f) =
      let g : a ++ (b ++ v) ≡ c ++ d = sym (append_assoc a b v) ∙ ap (λ z. z ++ v) (sym e) ∙ f in
      let s = same_front A code a (b ++ v) c d ha hc g in
      codeB b v hb (subst B s.1 hd)

  -- where a text of A and one of B are a front of A's that is not whole, and more, the first byte more goes on with it
  goes_on : (p : List ℕ) (n : ℕ) (o : List ℕ) → A (p ++ (n ∷ o)) → (b : ℕ) (r a d : List ℕ) → A a → Cut p (b ∷ r) a d → Begins A (p ++ (b ∷ []))
  goes_on p n o could b r a d ha (inl (z, e, f)) =
      absurd (not_nil n z o (code a (z ++ (n ∷ o)) ha (subst A (ap (λ q. q ++ (n ∷ o)) e ∙ append_assoc a z (n ∷ o)) could)))
  goes_on p n o could b r a d ha (inr ([], e, f)) =
      absurd (not_nil n [] o (code p (n ∷ o) (subst A (e ∙ append-nil p) ha) could))
  goes_on p n o could b r a d ha (inr (c ∷ z, e, f)) =
      let g : b ≡ c = head_same b c r (z ++ d) f in
      (z, subst A (e ∙ ap (λ q. p ++ (q ∷ z)) (sym g) ∙ sym (push_rest p b z)) ha)

  -- the fault is in the first part
  first_cannot : (p : List ℕ) (n : ℕ) (o : List ℕ) → A (p ++ (n ∷ o)) → (b : ℕ) → Begins (Then A B) (p ++ (b ∷ [])) → Begins A (p ++ (b ∷ []))
  first_cannot p n o could b (r, (a, d, ha, hd, f)) =
      goes_on p n o could b r a d ha (cuts p (b ∷ r) a d (sym (push_rest p b r) ∙ f))

  pub stops_first : (t left v : List ℕ) → B v → Stops A t left → Stops (Then A B) t left
  stops_first t left v hv s = record {
    read = s.read;
    parts = s.parts;
    next = s.next;
    after = s.after ++ v;
    could = (s.read ++ (s.next ∷ s.after), v, s.could, hv, sym (append_assoc s.read (s.next ∷ s.after) v));
    cannot = λ b more e w. s.cannot b more e (first_cannot s.read s.next s.after s.could b w);
  }

  -- the fault is behind the first part
  later_cannot : (a p : List ℕ) (b : ℕ) → A a → Begins (Then A B) ((a ++ p) ++ (b ∷ [])) → Begins B (p ++ (b ∷ []))
  later_cannot a p b ha (r, (c, d, hc, hd, f)) =
      let g : a ++ ((p ++ (b ∷ [])) ++ r) ≡ c ++ d = (simp append_assoc) ∙ f in
      (r, subst B (same_front A code a ((p ++ (b ∷ [])) ++ r) c d ha hc g).1 hd)

  pub stops_later : (t a u left : List ℕ) → A a → t ≡ a ++ u → Stops B u left → Stops (Then A B) t left
  stops_later t a u left ha e s = record {
    read = a ++ s.read;
    parts = e ∙ ap (λ z. a ++ z) s.parts ∙ sym (append_assoc a s.read left);
    next = s.next;
    after = s.after;
    could = (a, s.read ++ (s.next ∷ s.after), ha, s.could, append_assoc a s.read (s.next ∷ s.after));
    cannot = λ b more f w. s.cannot b more f (later_cannot a s.read b ha w);
  }

  -- what was read where it stopped is no whole text
  pub not_whole : (p : List ℕ) (n : ℕ) (o : List ℕ) → A (p ++ (n ∷ o)) → Then A B p → ⊥
  not_whole p n o could (a, d, ha, hd, e) =
      not_nil n d o (code a (d ++ (n ∷ o)) ha (subst A (ap (λ q. q ++ (n ∷ o)) e ∙ append_assoc a d (n ∷ o)) could))

pub nil_not_cons : (t : List ℕ) (b : ℕ) (more : List ℕ) → length t ≡ 0 → t ≡ b ∷ more → ⊥
nil_not_cons t b more h e = omega (arith, h, ap length e)

-- a text that stops begins with none of the set
pub no_front : (K : List ℕ → Type 0) → Code K → (t left u v : List ℕ) → Stops K t left → K u → t ≡ u ++ v → ⊥
no_front K code t left u v s ku e = by_cut (cuts s.read left u v (sym s.parts ∙ e))
  where
    by_cut : Cut s.read left u v → ⊥
    by_cut (inl (x, p, q)) = not_nil s.next x s.after (code u (x ++ (s.next ∷ s.after)) ku (subst K (ap (λ z. z ++ (s.next ∷ s.after)) p ∙ append_assoc u x (s.next ∷ s.after)) s.could))
    by_cut (inr ([], p, q)) = not_nil s.next [] s.after (code s.read (s.next ∷ s.after) (subst K (p ∙ append-nil s.read) ku) s.could)
    by_cut (inr (c ∷ z, p, q)) = s.cannot c (z ++ v) q (z, subst K (p ∙ sym (push_rest s.read c z)) ku)
