-- Whole plate texts: read in one way, and with one first bad line.
use Rattle.std.proofs.Common.{◌≡◌, ℕ, ◌+◌, ◌<◌, List, [], ◌∷◌, ◌++◌, length, All, sym, refl, ap, ◌∙◌, subst, inl, inr, append_assoc, append-nil, arith, length-append}
use Rattle.std.proofs.lemmas.List.{nil_from_length}
use Rattle.std.proofs.lemmas.List.Elements.{All-nil, All-head}
use Rattle.text.specs.Texts.{Stops}
use Rattle.text.proofs.Codes.{Cut, cuts, no_front}
use Rattle.text.specs.Many.{LinesRead, FaultyLine, BrokeOff}
use Rattle.text.specs.declared.lines.Broken.{Broken}
use Rattle.text.specs.declared.lines.Broken.TheVariants.{Line, Memory}
use Rattle.text.proofs.Forms.{line_code, same_line}
use Rattle.text.proofs.Many.{peel, none_in_nothing, same_lines}
use Rattle.plates.specs.declared.plate.Setting.{Setting}
use Rattle.plates.specs.declared.plate.KindEntry.{KindEntry}
use Rattle.plates.specs.declared.plate.RowEntry.{RowEntry}
use Rattle.plates.specs.Lines.{line_of_plate, line_of_kind, line_of_row, ShortSetting, ShortKind, ShortRow, PlateLine, KindLine, RowLine}
use Rattle.plates.specs.Texts.{kind_lines, row_lines, text_of, TextOf, Lawful, ReadAs, WholeLines, StopsAfter, BadLine}
use Rattle.plates.specs.Replies.{Kindly, unread_after, PartUnread, PlateUnread}
use Rattle.plates.specs.declared.unread.Unread.{Unread}
use Rattle.plates.proofs.LineParts.{plate_form, kind_form, row_form}
use Rattle.plates.proofs.Fronts.{kind_some, row_some, kind_kindly, row_not_kindly}

-- no kind line begins row lines, and no line begins nothing
no_kind_in_rows : (rs : List RowEntry) → All ShortRow rs → (k : KindEntry) (w : List ℕ) → ShortKind k → row_lines rs ≡ line_of_kind k ++ w → ⊥
no_kind_in_rows [] sr k w sk e = none_in_nothing line_of_kind kind_some k w e
no_kind_in_rows (r ∷ rs) sr k w sk e = row_not_kindly r (row_lines rs) (row_lines (r ∷ rs)) (All-head ShortRow r rs sr) refl (kind_kindly k w (row_lines (r ∷ rs)) e)

no_row_in_none : (r : RowEntry) (w : List ℕ) → ShortRow r → [] ≡ line_of_row r ++ w → ⊥
no_row_in_none r w s e = none_in_nothing line_of_row row_some r w e

-- what may follow on a whole front: kinds and rows, but after a row only rows
pub record Follows (rs : List RowEntry) (more : List ℕ) : Type 0 where
  pub kinds : List KindEntry
  pub rows : List RowEntry
  pub short_kinds : All ShortKind kinds
  pub short_rows : All ShortRow rows
  pub text : more ≡ kind_lines kinds ++ row_lines rows
  pub order : 0 < length rs → kinds ≡ []

after_rows : (rs : List RowEntry) (more : List ℕ) (zs : List KindEntry) (ps : List RowEntry) → All ShortRow rs → All ShortKind zs → All ShortRow ps
    → row_lines rs ++ more ≡ kind_lines zs ++ row_lines ps → Follows rs more
after_rows [] more zs ps sr sz sp e = record { kinds = zs; rows = ps; short_kinds = sz; short_rows = sp; text = e; order = λ h. absurd (omega (arith, h)) }
after_rows (r ∷ rs) more (z ∷ zs) ps sr sz sp e =
    absurd (row_not_kindly r (row_lines rs ++ more) (row_lines (r ∷ rs) ++ more) (All-head ShortRow r rs sr) (append_assoc (line_of_row r) (row_lines rs) more)
    (kind_kindly z (kind_lines zs ++ row_lines ps) (row_lines (r ∷ rs) ++ more) (e ∙ append_assoc (line_of_kind z) (kind_lines zs) (row_lines ps))))
after_rows (r ∷ rs) more [] ps sr sz sp e =
    let p = peel line_of_row ShortRow (same_line row_form) (r ∷ rs) ps more [] sr sp no_row_in_none (e ∙ sym (append-nil (row_lines ps))) in
    record { kinds = []; rows = p.more; short_kinds = All-nil ShortKind; short_rows = p.short; text = p.rest ∙ append-nil (row_lines p.more); order = λ h. refl }

-- a whole front and more make a plate text only by more lines
follows : (s : Setting) (ks : List KindEntry) (rs : List RowEntry) (front more : List ℕ) → TextOf s ks rs front → Lawful (front ++ more) → Follows rs more
follows s ks rs front more o (q, ls, ps, n) =
    let e : line_of_plate s ++ ((kind_lines ks ++ row_lines rs) ++ more) ≡ line_of_plate q ++ (kind_lines ls ++ row_lines ps)
    = sym (append_assoc (line_of_plate s) (kind_lines ks ++ row_lines rs) more) ∙ ap (λ z. z ++ more) (sym o.text) ∙ n.text in
    let b = (same_line plate_form s q ((kind_lines ks ++ row_lines rs) ++ more) (kind_lines ls ++ row_lines ps) o.short_setting n.short_setting e).1 in
    let p = peel line_of_kind ShortKind (same_line kind_form) ks ls (row_lines rs ++ more) (row_lines ps) o.short_kinds n.short_kinds (no_kind_in_rows ps n.short_rows)
    (sym (append_assoc (kind_lines ks) (row_lines rs) more) ∙ b) in
    after_rows rs more p.more ps o.short_rows p.short n.short_rows p.rest

-- one text reads as one plate
none_left : (rs ps : List RowEntry) (zs : List KindEntry) → All ShortRow rs → All ShortKind zs → row_lines rs ≡ kind_lines zs ++ row_lines ps → zs ≡ []
none_left rs ps [] sr sz e = refl
none_left rs ps (z ∷ zs) sr sz e = absurd (no_kind_in_rows rs sr z (kind_lines zs ++ row_lines ps) (All-head ShortKind z zs sz) (e ∙ append_assoc (line_of_kind z) (kind_lines zs) (row_lines ps)))

same_text : (t : List ℕ) (s q : Setting) (ks ls : List KindEntry) (rs ps : List RowEntry) → TextOf s ks rs t → TextOf q ls ps t → (q ≡ s) × (ls ≡ ks) × (ps ≡ rs)
same_text t s q ks ls rs ps o n =
    let b = same_line plate_form s q (kind_lines ks ++ row_lines rs) (kind_lines ls ++ row_lines ps) o.short_setting n.short_setting (sym o.text ∙ n.text) in
    let p = peel line_of_kind ShortKind (same_line kind_form) ks ls (row_lines rs) (row_lines ps) o.short_kinds n.short_kinds (no_kind_in_rows ps n.short_rows) b.1 in
    let none = none_left rs ps p.more o.short_rows p.short p.rest in
    let rows : row_lines rs ≡ row_lines ps = p.rest ∙ ap (λ z. kind_lines z ++ row_lines ps) none in
    (sym b.0, p.whole ∙ ap (λ z. ks ++ z) none ∙ append-nil ks, sym (same_lines line_of_row ShortRow (same_line row_form) row_some rs ps o.short_rows n.short_rows rows))

read_as : (t : List ℕ) (s : Setting) (ks : List KindEntry) (rs : List RowEntry) → TextOf s ks rs t → ReadAs s ks rs t
read_as t s ks rs o = record { says = o; only = λ q ls ps n. same_text t s q ks ls rs ps o n }

-- ---- the first bad line

pub lawful_is : {t : List ℕ} (s : Setting) (ks : List KindEntry) (rs : List RowEntry) → TextOf s ks rs t → Lawful t
lawful_is s ks rs o = (s, ks, rs, o)

not_empty : Lawful [] → ⊥
not_empty (s, ks, rs, o) = omega (arith, simp length-append at (ap length o.text))

-- it is enough that no longer front is a plate text, and that something is left
stopped : (t front rest : List ℕ) (n : ℕ) → t ≡ front ++ rest → WholeLines front n → ((more left : List ℕ) → rest ≡ more ++ left → Lawful (front ++ more) → more ≡ []) → (rest ≡ [] → Lawful t → ⊥) → StopsAfter t n
stopped t front rest n e whole longest some = record {
  front = front;
  rest = rest;
  parts = e;
  whole = whole;
  longest = longest;
  unlawful = λ l. some (longest rest [] (sym (append-nil rest)) (subst Lawful e l)) l;
}

same_count : (front : List ℕ) (n m : ℕ) → WholeLines front n → WholeLines front m → n ≡ m
same_count front n m (inl (e, a)) (inl (f, b)) = a ∙ sym b
same_count front n m (inl (e, a)) (inr (s, ks, rs, o, b)) = absurd (not_empty (subst Lawful e (s, ks, rs, o)))
same_count front n m (inr (s, ks, rs, o, a)) (inl (f, b)) = absurd (not_empty (subst Lawful f (s, ks, rs, o)))
same_count front n m (inr (s, ks, rs, o, a)) (inr (q, ls, ps, p, b)) =
    let e = same_text front q s ls ks ps rs p o in
    a ∙ ap (λ z. 1 + length z + length rs) e.1 ∙ ap (λ z. 1 + length ls + length z) e.2 ∙ sym b

empty_front : (a x : List ℕ) → a ++ x ≡ [] → x ≡ []
empty_front [] x e = e
empty_front (b ∷ a) x e = absurd (omega (arith, ap length e))

-- a front within another whole front is the same
no_longer : (t : List ℕ) (n m : ℕ) (p : StopsAfter t n) (q : StopsAfter t m) (x : List ℕ) → q.front ≡ p.front ++ x → p.rest ≡ x ++ q.rest → x ≡ []
no_longer t n m p q x e f = by_whole q.whole
  where
    by_whole : WholeLines q.front m → x ≡ []
    by_whole (inl (none, h)) = empty_front p.front x (sym e ∙ none)
    by_whole (inr (s, ks, rs, o, h)) = p.longest x q.rest f (subst Lawful e (s, ks, rs, o))

same_front_count : (t : List ℕ) (n m : ℕ) (p : StopsAfter t n) (q : StopsAfter t m) → Cut p.front p.rest q.front q.rest → m ≡ n
same_front_count t n m p q (inl (x, e, f)) =
    let none = no_longer t m n q p x e f in
    let same : p.front ≡ q.front = e ∙ ap (λ z. q.front ++ z) none ∙ append-nil q.front in
    same_count q.front m n q.whole (subst (λ z. WholeLines z n) same p.whole)
same_front_count t n m p q (inr (x, e, f)) =
    let none = no_longer t n m p q x e f in
    let same : q.front ≡ p.front = e ∙ ap (λ z. p.front ++ z) none ∙ append-nil p.front in
    same_count p.front m n (subst (λ z. WholeLines z m) same q.whole) p.whole

bad_line_at : (t : List ℕ) (n a : ℕ) → StopsAfter t n → a ≡ n + 1 → BadLine t a
bad_line_at t n a p e = record {
  stops = n;
  after = p;
  only = λ m q. same_front_count t n m p q (cuts p.front p.rest q.front q.rest (sym p.parts ∙ q.parts));
  line = e;
}

-- the first line is bad
pub bad_first : (t left : List ℕ) → Stops PlateLine t left → BadLine t 1
bad_first t left s = bad_line_at t 0 1 (stopped t [] t 0 refl (inl (refl, refl)) no_plate (λ none l. not_empty (subst Lawful none l))) refl
  where
    no_plate : (more rest : List ℕ) → t ≡ more ++ rest → Lawful ([] ++ more) → more ≡ []
    no_plate more rest e (q, ls, ps, o) =
        absurd (no_front PlateLine (line_code plate_form) t left (line_of_plate q) ((kind_lines ls ++ row_lines ps) ++ rest) s (q, o.short_setting, refl)
        (e ∙ ap (λ z. z ++ rest) o.text ∙ append_assoc (line_of_plate q) (kind_lines ls ++ row_lines ps) rest))

-- where neither a kind line nor a row line may come next, nothing follows
module _ (rs : List RowEntry) (rest : List ℕ)
    (no_kind : (k : KindEntry) (w : List ℕ) → ShortKind k → (0 < length rs → ⊥) → rest ≡ line_of_kind k ++ w → ⊥)
    (no_row : (r : RowEntry) (w : List ℕ) → ShortRow r → rest ≡ line_of_row r ++ w → ⊥) where
  by_lines : (more left : List ℕ) → rest ≡ more ++ left → (zs : List KindEntry) (ps : List RowEntry) → All ShortKind zs → All ShortRow ps
      → more ≡ kind_lines zs ++ row_lines ps → (0 < length rs → zs ≡ []) → more ≡ []
  by_lines more left e [] [] sz sp text order = text
  by_lines more left e [] (r ∷ ps) sz sp text order =
      absurd (no_row r (row_lines ps ++ left) (All-head ShortRow r ps sp) (e ∙ ap (λ z. z ++ left) text ∙ append_assoc (line_of_row r) (row_lines ps) left))
  by_lines more left e (z ∷ zs) ps sz sp text order =
      absurd (no_kind z ((kind_lines zs ++ row_lines ps) ++ left) (All-head ShortKind z zs sz) (λ h. omega (arith, ap length (order h)))
      (e ∙ ap (λ z. z ++ left) text ∙ simp append_assoc))

  nothing_follows : (more left : List ℕ) → rest ≡ more ++ left → Follows rs more → more ≡ []
  nothing_follows more left e f = by_lines more left e f.kinds f.rows f.short_kinds f.short_rows f.text f.order

-- a line after a whole front is bad
bad_after : (t front rest : List ℕ) (s : Setting) (ks : List KindEntry) (rs : List RowEntry) → t ≡ front ++ rest → TextOf s ks rs front → 0 < length rest
    → ((k : KindEntry) (w : List ℕ) → ShortKind k → (0 < length rs → ⊥) → rest ≡ line_of_kind k ++ w → ⊥) → ((r : RowEntry) (w : List ℕ) → ShortRow r → rest ≡ line_of_row r ++ w → ⊥)
    → BadLine t (1 + length ks + length rs + 1)
bad_after t front rest s ks rs e o some no_kind no_row =
    bad_line_at t (1 + length ks + length rs) (1 + length ks + length rs + 1)
    (stopped t front rest (1 + length ks + length rs) e (inr (s, ks, rs, o, refl))
    (λ more left g l. nothing_follows rs rest no_kind no_row more left g (follows s ks rs front more o l))
    (λ none l. omega (arith, some, ap length none)))
    refl

-- t is the first line of s, and then u
module _ (t u : List ℕ) (s : Setting) (ss : ShortSetting s) (e : t ≡ line_of_plate s ++ u) where
  -- a kind line is bad
  bad_kind : (n a : ℕ) (left : List ℕ) → FaultyLine line_of_kind ShortKind Kindly u n left → a ≡ 1 + n + 1 → BadLine t a
  bad_kind n a left b line =
      let front = text_of s b.whole [] in
      let whole : t ≡ front ++ b.rest = e ∙ ap (λ z. line_of_plate s ++ z) b.parts ∙ simp (append_assoc, append-nil) in
      let o : TextOf s b.whole [] front = record { short_setting = ss; short_kinds = b.short; short_rows = All-nil ShortRow; text = refl } in
      let same : 1 + length b.whole + 0 + 1 ≡ a = omega (arith, b.count, line) in
      subst (BadLine t) same
      (bad_after t front b.rest s b.whole [] whole o (omega (arith, ap length b.next.1))
      (λ k w sk none g. no_front KindLine (line_code kind_form) b.rest left (line_of_kind k) w b.stops (k, sk, refl) g)
      (λ r w sr g. row_not_kindly r w b.rest sr g b.next))

  kinds_broken : (b : Broken) → BrokeOff line_of_kind ShortKind Kindly u b → PlateUnread (unread_after 1 b) t
  kinds_broken (Line n fault) f = bad_kind n (1 + n + 1) fault.left.now f refl
  kinds_broken Memory f = tt

  pub kinds_unread : (w : Unread) → PartUnread line_of_kind ShortKind Kindly u 1 w → PlateUnread w t
  kinds_unread w (b, f, g) = subst (λ z. PlateUnread z t) (sym g) (kinds_broken b f)

  -- u is kind lines, and then v
  module _ (v : List ℕ) (ks : List KindEntry) (read : LinesRead line_of_kind ShortKind Kindly u ks v) where
    -- a row line is bad
    bad_row : (n a : ℕ) (left : List ℕ) → FaultyLine line_of_row ShortRow (λ x. 0 < length x) v n left → a ≡ 1 + length ks + n + 1 → BadLine t a
    bad_row n a left b line =
        let front = text_of s ks b.whole in
        let whole : t ≡ front ++ b.rest = e ∙ ap (λ z. line_of_plate s ++ z) (read.parts ∙ ap (λ z. kind_lines ks ++ z) b.parts) ∙ simp append_assoc in
        let o : TextOf s ks b.whole front = record { short_setting = ss; short_kinds = read.short; short_rows = b.short; text = refl } in
        let same : 1 + length ks + length b.whole + 1 ≡ a = omega (arith, b.count, line) in
        subst (BadLine t) same
        (bad_after t front b.rest s ks b.whole whole o b.next
        (λ k w short none g. read.ended (kind_kindly k w v (b.parts ∙ ap (λ z. z ++ b.rest) (no_rows b.whole none) ∙ g)))
        (λ r w sr g. no_front RowLine (line_code row_form) b.rest left (line_of_row r) w b.stops (r, sr, refl) g))
      where
        no_rows : (xs : List RowEntry) → (0 < length xs → ⊥) → row_lines xs ≡ []
        no_rows [] none = refl
        no_rows (x ∷ xs) none = absurd (none (omega arith))

    rows_broken : (b : Broken) (before : ℕ) → before ≡ 1 + length ks → BrokeOff line_of_row ShortRow (λ x. 0 < length x) v b → PlateUnread (unread_after before b) t
    rows_broken (Line n fault) before m f = bad_row n (before + n + 1) fault.left.now f (omega (arith, m))
    rows_broken Memory before m f = tt

    pub rows_unread : (w : Unread) (before : ℕ) → before ≡ 1 + length ks → PartUnread line_of_row ShortRow (λ x. 0 < length x) v before w → PlateUnread w t
    rows_unread w before m (b, f, g) = subst (λ z. PlateUnread z t) (sym g) (rows_broken b before m f)

    -- the plate that was read
    pub read_whole : (rs : List RowEntry) (w : List ℕ) → LinesRead line_of_row ShortRow (λ x. 0 < length x) v rs w → ReadAs s ks rs t
    read_whole rs w rows =
        let none : w ≡ [] = nil_from_length w (grind (arith, rows.ended)) in
        read_as t s ks rs (record {
          short_setting = ss;
          short_kinds = read.short;
          short_rows = rows.short;
          text = e ∙ ap (λ z. line_of_plate s ++ z) (read.parts ∙ ap (λ z. kind_lines ks ++ z) (rows.parts ∙ ap (λ z. row_lines rs ++ z) none ∙ append-nil (row_lines rs)));
        })
