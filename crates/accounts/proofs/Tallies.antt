-- How many rows are kept, row by row.
use Rattle.std.proofs.Common.{◌≡◌, ℕ, zero, suc, ◌+◌, ◌<◌, ◌≤◌, Bool, true, false, cond, eqb, List, [], ◌∷◌, length as size, get_or, take, set, replicate, sym, refl, ap, ◌∙◌, add-one, arith, length-set, get_or-set_other, get_or-set_same, eq-eqb, ne_eqb}
use lib.ListN.{length-replicate, get_or-replicate}
use native.Mathlib.Decide.{ℕ_discrete}
use Rattle.layout.specs.declared.row.Row.{Row}
use Rattle.layout.specs.Pieces.{blank}
use Rattle.accounts.specs.Accounts.{Tallied, kept, kept_by}

one_at_most : (a b : Bool) → cond a (cond b 1 0) 0 ≤ 1
one_at_most true true = omega arith
one_at_most true false = omega arith
one_at_most false b = omega arith

pub kept_bound : (k : ℕ) (rows : List Row) → kept k rows ≤ size rows
kept_bound k [] = omega arith
kept_bound k (r ∷ rows) = omega (arith, one_at_most (eqb r.kind k) (eqb r.spare 0), kept_bound k rows)

-- one row more
more_rows : (k i : ℕ) (rows : List Row) → i < size rows → kept k (take (suc i) rows) ≡ kept k (take i rows) + kept_by k (get_or rows i blank)
more_rows k i [] lt = absurd (omega arith)
more_rows k zero (r ∷ rows) lt = omega arith
more_rows k (suc i) (r ∷ rows) lt = omega (arith, more_rows k i rows (omega arith))

kept_more : (k i : ℕ) (rows : List Row) → i < size rows → kept k (take (i + 1) rows) ≡ kept k (take i rows) + kept_by k (get_or rows i blank)
kept_more k i rows lt = rw add-one (more_rows k i rows lt)

-- what a row adds
kept_same : (k : ℕ) (r : Row) → r.spare ≡ 0 → r.kind ≡ k → kept_by k r ≡ 1
kept_same k r keep e = rw (eq-eqb r.kind k e, eq-eqb r.spare 0 keep)

kept_other : (k : ℕ) (r : Row) → (r.kind ≡ k → ⊥) → kept_by k r ≡ 0
kept_other k r ne = rw (ne_eqb r.kind k ne)

kept_spare : (k : ℕ) (r : Row) → (r.spare ≡ 0 → ⊥) → kept_by k r ≡ 0
kept_spare k r spare = rw (ne_eqb r.spare 0 spare) (nothing (eqb r.kind k))
  where
    nothing : (b : Bool) → ◌≡◌ {A = ℕ} (cond b 0 0) 0
    nothing true = refl
    nothing false = refl

pub tallied_none : Tallied [] (replicate 32 0)
tallied_none = record { full = length-replicate {A = ℕ} 32 0; each = λ k lt. get_or-replicate {A = ℕ} 32 k 0 0 lt }

pub tallied_keep : (rows : List Row) (table : List ℕ) (i : ℕ) → i < size rows → (get_or rows i blank).kind < 32 → (get_or rows i blank).spare ≡ 0 → Tallied (take i rows) table → Tallied (take (i + 1) rows) (set table (get_or rows i blank).kind (get_or table (get_or rows i blank).kind 0 + 1))
tallied_keep rows table i lt known keep t = record { full = length-set table kind _ ∙ t.full; each = λ k small. go k small (ℕ_discrete k kind) }
  where
    r : Row
    r = get_or rows i blank

    kind : ℕ
    kind = (get_or rows i blank).kind

    go : (k : ℕ) → k < 32 → Dec (k ≡ kind) → get_or (set table kind (get_or table kind 0 + 1)) k 0 ≡ kept k (take (i + 1) rows)
    go k small (yes e) =
        ap (λ (j : ℕ). get_or (set table kind (get_or table kind 0 + 1)) j 0) e
        ∙ get_or-set_same table kind _ 0 (omega (arith, t.full))
        ∙ omega (arith, kept_more k i rows lt, t.each k small, kept_same k r keep (sym e), ap (λ (j : ℕ). get_or table j 0) e)
    go k small (no ne) =
        get_or-set_other table kind k _ 0 ne
        ∙ omega (arith, kept_more k i rows lt, t.each k small, kept_other k r (λ e. ne (sym e)))

pub tallied_spare : (rows : List Row) (table : List ℕ) (i : ℕ) → i < size rows → ((get_or rows i blank).spare ≡ 0 → ⊥) → Tallied (take i rows) table → Tallied (take (i + 1) rows) table
tallied_spare rows table i lt spare t = record { full = t.full; each = λ k small. omega (arith, kept_more k i rows lt, t.each k small, kept_spare k (get_or rows i blank) spare) }
