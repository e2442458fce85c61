-- A whole text: the job line and then item lines.
use Rattle.std.proofs.Common.{◌≡◌, ℕ, ◌<◌, List, [], ◌∷◌, ◌++◌, length, sym, refl, ap, ◌∙◌, subst, append_assoc, append-nil, arith, length-append}
use Rattle.std.proofs.lemmas.List.{nil_from_length}
use Rattle.std.proofs.lemmas.List.Elements.{All-append}
use Rattle.text.specs.Texts.{Stops}
use Rattle.text.specs.Many.{BrokeOff, stop_of}
use Rattle.text.specs.declared.lines.Broken.{Broken}
use Rattle.text.specs.declared.lines.Broken.TheVariants.{Line, Memory}
use Rattle.text.proofs.Codes.{Then, Code, same_front, push_rest, stops_first, not_whole}
use Rattle.text.proofs.Forms.{line_code, same_line}
use Rattle.text.proofs.Many.{Lines, Ahead, nothing, first_line, from_first, past_lines, lines_append}
use Rattle.orders.specs.declared.order.Head.{Head}
use Rattle.orders.specs.declared.order.Item.{Item}
use Rattle.orders.specs.Lines.{line_of_job, line_of_item, ShortHead, ShortItem, JobLine, ItemLine}
use Rattle.orders.specs.Orders.{item_lines, text_of, TextOf, Lawful, LeftAtFault}
use Rattle.orders.specs.Replies.{Stopped}
use Rattle.orders.proofs.LineParts.{job_form, item_form}

pub item_some : (i : Item) → 0 < length (line_of_item i)
item_some i = omega arith

abbrev Items : List ℕ → Type 0
Items t = Lines line_of_item ShortItem t

to_parts : (t : List ℕ) → Lawful t → Then JobLine Items t
to_parts t (h, is, l) = (line_of_job h, item_lines is, (h, l.short_head, refl), (is, l.short_items, refl), l.text)

from_parts : (t : List ℕ) → Then JobLine Items t → Lawful t
from_parts t (a, b, (h, sh, e), (is, si, f), g) =
    (h, is, record { short_head = sh; short_items = si; text = g ∙ ap (λ z. z ++ b) e ∙ ap (λ z. line_of_job h ++ z) f })

-- where what makes a front lawful is a text of A and one of B, a text that stops in the part of A is at fault there
module _ (A B : List ℕ → Type 0) (code : Code A) (none : B []) (front : List ℕ)
    (to : (x : List ℕ) → 0 < length x → Lawful (front ++ x) → Then A B x) (from : (x : List ℕ) → Then A B x → Lawful (front ++ x)) where
  faulty_at : {rest left : List ℕ} (t : List ℕ) → t ≡ front ++ rest → (Lawful (front ++ rest) → Then A B rest) → Stops A rest left → LeftAtFault t left
  faulty_at {rest} {left} t e whole s =
      let f = stops_first A B code rest left [] none s in
      record {
        read = front ++ f.read;
        parts = e ∙ ap (λ z. front ++ z) f.parts ∙ sym (append_assoc front f.read left);
        could = (f.next ∷ f.after, subst Lawful (sym (append_assoc front f.read (f.next ∷ f.after))) (from (f.read ++ (f.next ∷ f.after)) f.could));
        early = λ no l. not_whole A B code s.read s.next s.after s.could
            (subst (Then A B) (s.parts ∙ ap (λ z. s.read ++ z) no ∙ append-nil s.read) (whole (subst Lawful e l)));
        cannot = λ b more g w. f.cannot b more g (
          w.0,
          to ((f.read ++ (b ∷ [])) ++ w.0) (simp length-append (omega arith))
              (subst Lawful (simp append_assoc) w.1),
        );
      }

pub faulty_job : {t left : List ℕ} → Stops JobLine t left → LeftAtFault t left
faulty_job {t} {left} s =
    faulty_at JobLine Items (line_code job_form) (nothing line_of_item ShortItem) [] (λ x _ l. to_parts x l) from_parts t refl (to_parts t) s

-- t is the job line of h, and then u
module _ (h : Head) (sh : ShortHead h) (t u : List ℕ) (e : t ≡ line_of_job h ++ u) where
  module _ (is : List Item) (rest : List ℕ) (a : Ahead line_of_item ShortItem u is rest) where
    behind : t ≡ text_of h is ++ rest
    behind = e ∙ ap (λ z. line_of_job h ++ z) a.parts ∙ sym (append_assoc (line_of_job h) (item_lines is) rest)

    past_items : (x : List ℕ) → Lawful (text_of h is ++ x) → Items x
    past_items x l =
        let p = to_parts (text_of h is ++ x) l in
        let same = same_front JobLine (line_code job_form) (line_of_job h) (item_lines is ++ x) p.0 p.1 (h, sh, refl) p.2
        (sym (append_assoc (line_of_job h) (item_lines is) x) ∙ p.4) in
        past_lines line_of_item ShortItem (same_line item_form) item_some is x a.short (subst Items same.1 p.3)

    with_items : (x : List ℕ) → Items x → Lawful (text_of h is ++ x)
    with_items x (ks, sk, f) = (
      h,
      is ++ ks,
      record {
        short_head = sh;
        short_items = All-append ShortItem is ks a.short sk;
        text = ap (λ z. text_of h is ++ z) f ∙ append_assoc (line_of_job h) (item_lines is) (item_lines ks) ∙ ap (λ z. line_of_job h ++ z) (sym (lines_append line_of_item is ks));
      },
    )

    pub faulty_item : {left : List ℕ} → 0 < length rest → Stops ItemLine rest left → LeftAtFault t left
    faulty_item {left} some s =
        faulty_at ItemLine Items (line_code item_form) (nothing line_of_item ShortItem) (text_of h is) (λ x more l. first_line line_of_item ShortItem x more (past_items x l))
        (λ x w. with_items x (from_first line_of_item ShortItem x w)) t behind (λ l. first_line line_of_item ShortItem rest some (past_items rest l)) s

  pub stopped : (b : Broken) → BrokeOff line_of_item ShortItem (λ x. 0 < length x) u b → Stopped (stop_of b) t
  stopped (Line n fault) f = faulty_item f.whole f.rest (record { short = f.short; parts = f.parts }) f.next f.stops
  stopped Memory f = tt

  pub whole_text : (is : List Item) (rest : List ℕ) → Ahead line_of_item ShortItem u is rest → length rest ≡ 0 → TextOf h is t
  whole_text is rest a none = record {
    short_head = sh;
    short_items = a.short;
    text = behind is rest a ∙ ap (λ z. text_of h is ++ z) (nil_from_length rest none) ∙ append-nil (text_of h is);
  }

not_lawful_by : (t left : List ℕ) → LeftAtFault t left → Lawful t → (l : List ℕ) → left ≡ l → ⊥
not_lawful_by t left f l [] e = f.early e l
not_lawful_by t left f l (b ∷ more) e =
    f.cannot b more e (more, subst Lawful (f.parts ∙ ap (λ z. f.read ++ z) e ∙ sym (push_rest f.read b more)) l)

-- a faulty text is not lawful
pub not_lawful : (t left : List ℕ) → LeftAtFault t left → Lawful t → ⊥
not_lawful t left f l = not_lawful_by t left f l left refl
