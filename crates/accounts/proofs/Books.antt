-- Accounts as books.
use Rattle.std.proofs.Common.{◌≡◌, ℕ, ◌+◌, ◌*◌, ◌<◌, ◌≤◌, ◌⊎◌, List, [], ◌∷◌, ◌++◌, length as size, get_or, length-take, ap, ◌∙◌, subst, inl, inr, arith}
use Rattle.std.proofs.lemmas.List.{get_or_append_left, get_or_push, get_or_default, length_push}
use Rattle.std.proofs.lemmas.Slice.Zip.{length-zip, get_or-zip}
use Rattle.std.specs.List.{zip}
use native.Mathlib.Decide.{dec_lt}
use Rattle.accounts.specs.declared.account.Account.{Account}
use Rattle.layout.specs.declared.refusal.Refusal.{Refusal}
use Rattle.layout.specs.declared.row.Row.{Row}
use Rattle.layout.specs.Refusals.{RefusedBy, code_of}
use Rattle.accounts.specs.Accounts.{Book, LawfulBook, Summed, sum_at, RowsCause, CountCause}
use Rattle.accounts.specs.Books.{book}

-- every account keeps to the limits
pub lawful_book : (a : Account) → LawfulBook (book a)
lawful_book a = record { few = omega (arith, length-take a.ordered.used a.ordered.places, a.ordered.few); many = a.many; numbers = a.numbers; bounded = a.bounded }

-- a refusal of the rows is one of the count
pub rows_refused : (b : Book) (rows : List Row) (runs : ℕ) (e : Refusal) → RefusedBy (RowsCause (size b.ordered) rows runs) e → RefusedBy (CountCause b rows runs) e
rows_refused b rows runs e h = record { holds = inl h.holds; smallest = λ c lt o. smaller c lt o }
  where
    early : RowsCause (size b.ordered) rows runs (code_of e) → code_of e ≤ 5
    early (inl o) = omega (arith, o.0)
    early (inr (inl o)) = omega (arith, o.0)
    early (inr (inr o)) = omega (arith, o.0)

    smaller : (c : ℕ) → c < code_of e → CountCause b rows runs c → ⊥
    smaller c lt (inl o) = h.smallest c lt o
    smaller c lt (inr o) = omega (arith, o.0, early h.holds)

-- the numbers at one place of three lists
pub at_place : (counted tallies ordered : List ℕ) (n c t o : ℕ) → n < size (zip (zip counted tallies) ordered) → ((c, t), o) ≡ get_or (zip (zip counted tallies) ordered) n ((c, t), o) → (n < size ordered) × (c ≡ get_or counted n 0) × (t ≡ get_or tallies n 0) × (o ≡ get_or ordered n 0)
at_place counted tallies ordered n c t o lt e =
    let few : (n < size counted) × (n < size tallies) × (n < size ordered) = omega (arith, lt, length-zip (zip counted tallies) ordered, length-zip counted tallies) in
    let outer = e ∙ get_or-zip (zip counted tallies) ordered n ((c, t), o) (omega (arith, few, length-zip counted tallies)) few.2 in
    let inner = ap (λ (p : (ℕ × ℕ) × ℕ). p.0) outer ∙ get_or-zip counted tallies n (c, t) few.0 few.1 in (
      few.2,
      ap (λ (p : ℕ × ℕ). p.0) inner ∙ get_or_default counted n c 0 few.0,
      ap (λ (p : ℕ × ℕ). p.1) inner ∙ get_or_default tallies n t 0 few.1,
      ap (λ (p : (ℕ × ℕ) × ℕ). p.1) outer ∙ get_or_default ordered n o 0 few.2,
    )

-- one sum more
pub summed_push : (b : Book) (table : List ℕ) (runs n : ℕ) (sums : List ℕ) (x c t o : ℕ) → size sums ≡ n → (n < size b.ordered) × (c ≡ get_or b.counted n 0) × (t ≡ get_or table n 0) × (o ≡ get_or b.ordered n 0) → (x ≡ c + runs * t) × (x ≤ o) → Summed b table runs sums → Summed b table runs (sums ++ x ∷ [])
summed_push b table runs n sums x c t o long here step s = record { each = λ k lt. (at k (place k lt)).0; bounded = λ k lt. (at k (place k lt)).1 }
  where
    place : (k : ℕ) → k < size (sums ++ x ∷ []) → (k < size sums) ⊎ (n ≡ k)
    place k lt = elim (dec_lt k (size sums)) [ yes l ↦ inl l | no ge ↦ inr (omega (arith, length_push sums x)) ]

    at : (k : ℕ) → (k < size sums) ⊎ (n ≡ k) → (get_or (sums ++ x ∷ []) k 0 ≡ sum_at b table runs k) × (get_or (sums ++ x ∷ []) k 0 ≤ get_or b.ordered k 0)
    at k (inl l) =
        let front : get_or (sums ++ x ∷ []) k 0 ≡ get_or sums k 0 = get_or_append_left sums (x ∷ []) 0 k l in
        (front ∙ s.each k l, omega (arith, front, s.bounded k l))
    at k (inr last) =
        let new : get_or (sums ++ x ∷ []) n 0 ≡ x = get_or_push sums x 0 n long in
        let sum : x ≡ sum_at b table runs n = step.0 ∙ ap (λ (m : ℕ). m + runs * t) here.1 ∙ ap (λ (m : ℕ). get_or b.counted n 0 + runs * m) here.2 in
        subst (λ (j : ℕ). (get_or (sums ++ x ∷ []) j 0 ≡ sum_at b table runs j) × (get_or (sums ++ x ∷ []) j 0 ≤ get_or b.ordered j 0)) last (new ∙ sum, omega (arith, new, step.1, here.3))
