-- The patterns of both sets come apart in three stages.
use Rattle.std.proofs.Common.{◌≡◌, ℕ, ◌+◌, ◌<◌, ◌≤◌, List, length, get_or, sym, ap, ◌∙◌, All, arith}
use native.Mathlib.Decide.{dec_lt}
use Rattle.std.proofs.lemmas.List.Elements.{All-get_or}
use Rattle.layout.specs.declared.row.Row.{Row}
use Rattle.layout.specs.Apart.{plate, Inside, Sized}
use Rattle.layout.specs.Pieces.{end, top, blank}
use Rattle.layout.specs.Places.{pieces}
use Rattle.layout.specs.Tasks.{Shape, panels}
use Rattle.layout.proofs.Strips.{Strips, strips_come_apart}
use Rattle.layout.proofs.Segments.{Segments, segments_come_apart}
use Rattle.rules.specs.Rules.{Placed, RowsApart}
use Rattle.patterns.specs.Sets.{InOrder, TwoStagedSet, Beside, Alike, ThreeStagedSet}
use Rattle.patterns.proofs.Lists.{both_at, pairs_at}
use Rattle.patterns.proofs.Sizes.{along_of, across_of}
use Rattle.patterns.proofs.Pairs.{Stand, pairs}
use Rattle.patterns.proofs.Pairs.Stand.{aside, below, before}

-- what two rows of one segment are to one another
module _ (s : Shape) (a b : Row) (one : a.segment ≡ b.segment) where
  higher : a.strip < b.strip → Stand s a b → top (panels s) a + 0 ≤ b.y
  higher lt (aside l) = absurd (omega arith)
  higher lt (below e l h) = omega arith
  higher lt (before e l h x) = absurd (omega arith)

  never : b.strip < a.strip → Stand s a b → ⊥
  never lt (aside l) = omega arith
  never lt (below e l h) = omega arith
  never lt (before e l h x) = omega arith

  beside : a.strip ≡ b.strip → Stand s a b → (a.y ≡ b.y) × (end (panels s) a + 0 ≤ b.x)
  beside eq (aside l) = absurd (omega arith)
  beside eq (below e l h) = absurd (omega arith)
  beside eq (before e l h x) = (h, omega arith)

module _ (s : Shape) (sized : (r : Row) → Placed s r → (0 < along_of s r) × (0 < across_of s r)) (rows : List Row) where
  module _ (placed : All (Placed s) rows) where
    all_inside : (i : ℕ) → i < length rows → Inside ((pieces (panels s) rows).place i) (plate s.length s.width)
    all_inside i h = let p = All-get_or (Placed s) rows i blank h placed in omega (arith, p.inside_along, p.inside_across)

    all_sized : Sized (pieces (panels s) rows)
    all_sized i h = let z = sized (get_or rows i blank) (All-get_or (Placed s) rows i blank h placed) in (omega arith, omega arith)

  -- rows in order, by their numbers
  module _ (order : InOrder s rows) where
    stand : {i j : ℕ} → i < j → j < length rows → Stand s (get_or rows i blank) (get_or rows j blank)
    stand {i} {j} lt h = pairs_at (Stand s) rows (pairs s rows order) i j blank lt h

    level : (i j : ℕ) → i < length rows → j < length rows → (get_or rows i blank).segment ≡ (get_or rows j blank).segment → (get_or rows i blank).strip < (get_or rows j blank).strip → Dec (i < j) → Dec (j < i) → top (panels s) (get_or rows i blank) + 0 ≤ (get_or rows j blank).y
    level i j il jl e lt (yes b) _ = higher s (get_or rows i blank) (get_or rows j blank) e lt (stand b jl)
    level i j il jl e lt (no _) (yes b) = absurd (never s (get_or rows j blank) (get_or rows i blank) (sym e) lt (stand b il))
    level i j il jl e lt (no a) (no b) = let k : i ≡ j = omega arith in absurd (omega (arith, ap (λ (n : ℕ). (get_or rows n blank).strip) k))

    heights : (i j : ℕ) → i < length rows → j < length rows → (get_or rows i blank).segment ≡ (get_or rows j blank).segment → (get_or rows i blank).strip ≡ (get_or rows j blank).strip → Dec (i < j) → Dec (j < i) → (get_or rows i blank).y ≡ (get_or rows j blank).y
    heights i j il jl e f (yes b) _ = (beside s (get_or rows i blank) (get_or rows j blank) e f (stand b jl)).0
    heights i j il jl e f (no _) (yes b) = sym (beside s (get_or rows j blank) (get_or rows i blank) (sym e) (sym f) (stand b il)).0
    heights i j il jl e f (no a) (no b) = let k : i ≡ j = omega arith in ap (λ (n : ℕ). (get_or rows n blank).y) k

  pub two_staged_apart : TwoStagedSet s rows → RowsApart 0 3 s rows
  two_staged_apart set = strips_come_apart 0 (pieces (panels s) rows) (λ i. (get_or rows i blank).strip) (all_sized set.placed) in_strips (plate s.length s.width) (all_inside set.placed)
    where
      one : (i j : ℕ) → i < length rows → j < length rows → (get_or rows i blank).segment ≡ (get_or rows j blank).segment
      one i j il jl = All-get_or (λ (r : Row). r.segment ≡ 0) rows i blank il set.one ∙ sym (All-get_or (λ (r : Row). r.segment ≡ 0) rows j blank jl set.one)

      in_strips : Strips 0 (pieces (panels s) rows) (λ i. (get_or rows i blank).strip)
      in_strips = record {
        level = λ i j il jl lt. level set.order i j il jl (one i j il jl) lt (dec_lt i j) (dec_lt j i);
        order = λ i j lt jl e. (beside s (get_or rows i blank) (get_or rows j blank) (one i j (omega arith) jl) e (stand set.order lt jl)).1;
      }

  pub three_staged_apart : ThreeStagedSet s rows → RowsApart 0 3 s rows
  three_staged_apart set = segments_come_apart 0 (pieces (panels s) rows) (λ i. (get_or rows i blank).segment) (λ i. (get_or rows i blank).strip) (all_sized set.placed) in_segments (plate s.length s.width) (all_inside set.placed)
    where
      side : (i j : ℕ) → i < length rows → j < length rows → (get_or rows i blank).segment < (get_or rows j blank).segment → end (panels s) (get_or rows i blank) + 0 ≤ (get_or rows j blank).x
      side i j il jl lt =
          let most = All-get_or (λ (r : Row). r.segment ≤ 1) rows j blank jl set.two in
          let b = both_at (Beside s) rows set.beside i j blank il jl in
          omega (arith, b (omega arith) (omega arith))

      across_same : (a b : Row) → a.kind ≡ b.kind → a.turned ≡ b.turned → across_of s a ≡ across_of s b
      across_same a b e f = cc

      flush : (i j : ℕ) → i < length rows → j < length rows → (get_or rows i blank).segment ≡ (get_or rows j blank).segment → (get_or rows i blank).strip ≡ (get_or rows j blank).strip → ((get_or rows i blank).y ≡ (get_or rows j blank).y) × (top (panels s) (get_or rows i blank) ≡ top (panels s) (get_or rows j blank))
      flush i j il jl e f =
          let a = both_at Alike rows set.alike i j blank il jl e f in
          let h = heights set.order i j il jl e f (dec_lt i j) (dec_lt j i) in
          let k = across_same (get_or rows i blank) (get_or rows j blank) a.0 a.1 in
          (h, omega arith)

      in_segments : Segments 0 (pieces (panels s) rows) (λ i. (get_or rows i blank).segment) (λ i. (get_or rows i blank).strip)
      in_segments = record {
        apart = side;
        level = λ i j il jl e lt. level set.order i j il jl e lt (dec_lt i j) (dec_lt j i);
        alike = flush;
        order = λ i j lt jl e f. (beside s (get_or rows i blank) (get_or rows j blank) e f (stand set.order lt jl)).1;
      }
