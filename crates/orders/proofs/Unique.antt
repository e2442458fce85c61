-- A text says at most one order, and has at most one fault; never both.
use Rattle.std.proofs.Common.{◌≡◌, ℕ, ◌+◌, ◌<◌, ◌≤◌, List, ◌++◌, length, take, drop, sym, ap, ◌∙◌, subst, append_assoc, arith, take-append-drop}
use Rattle.std.proofs.lemmas.List.{take-take}
use Rattle.text.specs.Texts.{Begins}
use Rattle.text.proofs.Forms.{same_line}
use Rattle.text.proofs.Many.{same_lines}
use Rattle.orders.specs.Lines.{line_of_item, ShortItem}
use Rattle.orders.proofs.LineParts.{job_form, item_form}
use Rattle.orders.proofs.Whole.{item_some}
use Rattle.orders.specs.Orders.{item_lines, TextOf, Lawful, Fitting, FaultAfter, ReadAs, OneFault}
use Rattle.orders.specs.declared.order.Head.{Head}
use Rattle.orders.specs.declared.order.Item.{Item}

-- the order of a text is one
same_order : (t : List ℕ) (h k : Head) (is ks : List Item) → TextOf h is t → TextOf k ks t → (h ≡ k) × (is ≡ ks)
same_order t h k is ks p q =
    let s = same_line job_form h k (item_lines is) (item_lines ks) p.short_head q.short_head (sym p.text ∙ q.text) in
    (s.0, same_lines line_of_item ShortItem (same_line item_form) item_some is ks p.short_items q.short_items s.1)

-- a shorter front begins what a longer one begins
begins_shorter : (t : List ℕ) (n m : ℕ) → n ≤ m → Begins Lawful (take m t) → Begins Lawful (take n t)
begins_shorter t n m le (r, l) =
    let parts : take m t ++ r ≡ take n t ++ (drop n (take m t) ++ r)
    = ap (λ z. z ++ r) (sym (take-append-drop n (take m t)) ∙ ap (λ z. z ++ drop n (take m t)) (take-take n m t le)) ∙ append_assoc (take n t) (drop n (take m t)) r in
    (drop n (take m t) ++ r, subst Lawful parts l)

-- a text that is lawful has no fault after n bytes unless it is too long
not_lawful_at : (t : List ℕ) (n : ℕ) → FaultAfter t n → Lawful t → Fitting t → ⊥
not_lawful_at t n f l fits =
    let whole : n ≡ length t → ⊥ = λ e. f.early e l in
    let front : n < length t → ⊥ = λ lt. f.cannot lt (omega (arith, lt, fits)) (drop (n + 1) t, subst Lawful (sym (take-append-drop (n + 1) t)) l) in
    grind (arith, whole, front, f.within)

earlier : (t : List ℕ) (n m : ℕ) → FaultAfter t n → FaultAfter t m → n < m → ⊥
earlier t n m f g lt = f.cannot (omega (arith, g.within, lt)) (omega (arith, g.limit, lt)) (begins_shorter t (n + 1) m (omega (arith, lt)) g.could)

-- the fault of a text is one
same_fault : (t : List ℕ) (n m : ℕ) → FaultAfter t n → FaultAfter t m → n ≡ m
same_fault t n m f g =
    let less : n < m → ⊥ = earlier t n m f g in
    let more : m < n → ⊥ = earlier t m n g f in
    grind (arith, less, more)

pub read_as : (t : List ℕ) (h : Head) (is : List Item) → Fitting t → TextOf h is t → ReadAs h is t
read_as t h is fits says = record { fitting = fits; says = says; only = λ k ks other. same_order t k h ks is other says }

pub fault_only : (t : List ℕ) (n : ℕ) → FaultAfter t n → OneFault t n
fault_only t n f = record { fault = f; only = λ m other. same_fault t m n other f; refused = not_lawful_at t n f }
