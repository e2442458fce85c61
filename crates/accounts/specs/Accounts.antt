-- An account of what was ordered and what was counted, and what its calls do. This file does not name Account, whose ghost fields cite it.
use Rattle.std.specs.Prelude.{◌≡◌, ℕ, ◌+◌, ◌*◌, ◌<◌, ◌≤◌, cond, ◌⊎◌, List, [], ◌∷◌, length as size, replicate, Ok, Err, Result, ◌==◌, slice_index, slice_index_or}
use Rattle.layout.specs.declared.refusal.Refusal.{Refusal}
use Rattle.layout.specs.declared.row.Row.{Row}
use Rattle.layout.specs.Limits.{Between, Outside}
use Rattle.layout.specs.Pieces.{blank}

-- an account: by kind, how many were ordered, and how many were counted
pub record Book : Type 0 where
  pub ordered : List ℕ
  pub counted : List ℕ

-- P holds of each number
abbrev pub EachNumber : (ℕ → Type 0) → List ℕ → Type 0
EachNumber P numbers = (k : ℕ) → k < size numbers → P (slice_index numbers k)

-- P holds of some number
abbrev pub SomeNumber : (ℕ → Type 0) → List ℕ → Type 0
SomeNumber P numbers = (k : ℕ) × (k < size numbers) × P (slice_index numbers k)

-- P holds of each row
abbrev pub EachRow : (Row → Type 0) → List Row → Type 0
EachRow P rows = (i : ℕ) → i < size rows → P (slice_index_or rows i blank)

-- P holds of some row
abbrev pub SomeRow : (Row → Type 0) → List Row → Type 0
SomeRow P rows = (i : ℕ) × (i < size rows) × P (slice_index_or rows i blank)

-- the table of an account has 32 places
abbrev pub Full : List ℕ → Type 0
Full table = size table ≡ 32

-- none of the first n kinds was counted past its ordered number
abbrev pub NonePast : ℕ → List ℕ → List ℕ → Type 0
NonePast n ordered counted = (k : ℕ) → k < n → slice_index counted k ≤ slice_index ordered k

-- An account keeps to its limits: at most 32 kinds, each with an ordered number of 1 to 10,000 and a count that does not pass it.
pub record LawfulBook (b : Book) : Type 0 where
  pub few : size b.ordered ≤ 32
  pub many : size b.counted ≡ size b.ordered
  pub numbers : EachNumber (Between 1 10000) b.ordered
  pub bounded : NonePast (size b.ordered) b.ordered b.counted

-- why an account is not made: 3 an ordered number outside 1 to 10,000, 11 more than 32 kinds
abbrev pub AccountCause : List ℕ → ℕ → Type 0
AccountCause ordered c = ((c ≡ 3) × SomeNumber (Outside 1 10000) ordered) ⊎ ((c ≡ 11) × (32 < size ordered))

-- the account of these ordered numbers, with nothing counted
abbrev pub opened : List ℕ → Book
opened ordered = record { ordered = ordered; counted = replicate (size ordered) 0 }

-- what a row adds to the kept rows of the kind k: 1 if it is of that kind and its spare is 0
abbrev pub kept_by : ℕ → Row → ℕ
kept_by k r = cond (r.kind == k) (cond (r.spare == 0) 1 0) 0

-- how many rows of the kind k are kept
abbrev pub kept : ℕ → List Row → ℕ
kept k [] = 0
kept k (r ∷ rows) = kept_by k r + kept k rows

-- the table has the number of kept rows of each kind
pub record Tallied (rows : List Row) (table : List ℕ) : Type 0 where
  pub full : Full table
  pub each : (k : ℕ) → k < 32 → slice_index table k ≡ kept k rows

-- what the kind k has after so many runs of these rows
abbrev pub count_after : Book → List Row → ℕ → ℕ → ℕ
count_after b rows runs k = slice_index b.counted k + runs * kept k rows

-- why rows are not counted, whatever stands in the account: 3 runs outside 1 to 10,000, 4 an unknown kind in any row, 5 more than 4,096 rows
abbrev pub RowsCause : ℕ → List Row → ℕ → ℕ → Type 0
RowsCause kinds rows runs c =
    ((c ≡ 3) × Outside 1 10000 runs)
    ⊎ ((c ≡ 4) × SomeRow (λ r. kinds ≤ r.kind) rows)
    ⊎ ((c ≡ 5) × (4096 < size rows))

-- why rows are not counted: those causes, and 18 some kind would pass its ordered number
abbrev pub CountCause : Book → List Row → ℕ → ℕ → Type 0
CountCause b rows runs c =
    RowsCause (size b.ordered) rows runs c
    ⊎ ((c ≡ 18) × ((k : ℕ) × (k < size b.ordered) × (slice_index b.ordered k < count_after b rows runs k)))

-- rows that none of the first three causes holds of
pub record LawfulRows (kinds : ℕ) (rows : List Row) (runs : ℕ) : Type 0 where
  pub between : Between 1 10000 runs
  pub known : EachRow (λ r. r.kind < kinds) rows
  pub few : size rows ≤ 4096

-- the account b became d: each kind has its count after the runs
pub record Counted (b : Book) (rows : List Row) (runs : ℕ) (d : Book) : Type 0 where
  pub ordered : d.ordered ≡ b.ordered
  pub many : size d.counted ≡ size b.counted
  pub each : (k : ℕ) → k < size b.ordered → slice_index d.counted k ≡ count_after b rows runs k

-- what counting leaves: the counts after the runs, or, where it is refused, the account as it was
abbrev pub Left : {T : Type 0} → Result T Refusal → Book → List Row → ℕ → Book → Type 0
Left (Ok x) b rows runs d = Counted b rows runs d
Left (Err e) b rows runs d = d ≡ b

-- what the kind k has after so many runs, from a table of the kept rows
abbrev pub sum_at : Book → List ℕ → ℕ → ℕ → ℕ
sum_at b table runs k = slice_index b.counted k + runs * slice_index table k

-- some kind would pass its ordered number
abbrev pub SomePast : Book → List ℕ → ℕ → Type 0
SomePast b table runs = (k : ℕ) × (k < size b.ordered) × (slice_index b.ordered k < sum_at b table runs k)

-- the sums of the first kinds, none past its ordered number
pub record Summed (b : Book) (table : List ℕ) (runs : ℕ) (sums : List ℕ) : Type 0 where
  pub each : (k : ℕ) → k < size sums → slice_index sums k ≡ sum_at b table runs k
  pub bounded : NonePast (size sums) b.ordered sums

-- the account with these counts
abbrev pub with_counts : Book → List ℕ → Book
with_counts b counts = record { ordered = b.ordered; counted = counts }

-- the counts of each kind after so many runs of these rows, none past its ordered number
pub record Counts (b : Book) (rows : List Row) (runs : ℕ) (counts : List ℕ) : Type 0 where
  pub counted : Counted b rows runs (with_counts b counts)
  pub limits : LawfulBook (with_counts b counts)

-- every kind has its ordered number
abbrev pub Met : Book → Type 0
Met b = (k : ℕ) → k < size b.ordered → slice_index b.counted k ≡ slice_index b.ordered k
