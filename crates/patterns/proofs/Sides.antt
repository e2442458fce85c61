-- Where the two segments of a three-staged pattern are divided: at the greatest end of a piece of segment 0.
use Rattle.std.proofs.Common.{◌≡◌, ℕ, ◌≤◌, max, List, [], ◌∷◌, All, arith}
use Rattle.std.proofs.lemmas.List.Elements.{recursion_from_All}
use native.Mathlib.Decide.{ℕ_discrete}
use Rattle.std.specs.List.{AllByRecursion}
use Rattle.layout.specs.declared.row.Row.{Row}
use Rattle.layout.specs.Pieces.{end}
use Rattle.layout.specs.Tasks.{Shape, panels}
use Rattle.rules.specs.Rules.{Placed}
use Rattle.patterns.specs.Sets.{Beside, Alike, ThreeStagedSet}
use Rattle.patterns.proofs.Lists.{all_each, In, in_all, in_every, all_in}

-- the least number that no piece of segment 0 ends beyond
record Division (s : Shape) (rows : List Row) : Type 0 where
  place : ℕ
  past : AllByRecursion (λ (r : Row). r.segment ≡ 0 → end (panels s) r ≤ place) rows
  least : (n : ℕ) → AllByRecursion (λ (r : Row). r.segment ≡ 0 → end (panels s) r ≤ n) rows → place ≤ n

divide : (s : Shape) (rows : List Row) → Division s rows
divide s [] = record { place = 0; past = tt; least = λ n h. omega arith }
divide s (r ∷ rows) = by (divide s rows) (ℕ_discrete r.segment 0)
  where
    by : Division s rows → Dec (r.segment ≡ 0) → Division s (r ∷ rows)
    by d (yes e) = record {
      place = max (end (panels s) r) d.place;
      past = ((λ _. omega arith), all_each (λ q h z. omega (arith, h z)) rows d.past);
      least = λ n h. omega (arith, h.0 e, d.least n h.1);
    }
    by d (no e) = record { place = d.place; past = ((λ z. absurd (e z)), d.past); least = λ n h. d.least n h.1 }

-- what holds of a row of the list `all`, divided at c
pub record Sided (s : Shape) (c : ℕ) (all : List Row) (r : Row) : Type 0 where
  pub placed : Placed s r
  pub among : In r all
  pub two : r.segment ≤ 1
  pub left : r.segment ≡ 0 → end (panels s) r ≤ c
  pub right : r.segment ≡ 1 → c ≤ r.x

pub sides : (s : Shape) (rows : List Row) → ThreeStagedSet s rows → (c : ℕ) × (c ≤ s.length) × AllByRecursion (Sided s c rows) rows
sides s rows set =
    let d = divide s rows in (
      d.place,
      d.least s.length (all_each (λ r p _. p.inside_along) rows (recursion_from_All (Placed s) rows set.placed)),
      all_in (Sided s d.place rows) rows (λ r i. record {
        placed = in_every (Placed s) i set.placed;
        among = i;
        two = in_every (λ (q : Row). q.segment ≤ 1) i set.two;
        left = in_all (λ (q : Row). q.segment ≡ 0 → end (panels s) q ≤ d.place) i d.past;
        right = λ e. d.least r.x (all_in (λ (q : Row). q.segment ≡ 0 → end (panels s) q ≤ r.x) rows (λ q j z. in_every (Beside s q) i (in_every (λ (b : Row). All (Beside s b) rows) j set.beside) z e));
      }),
    )

-- two rows of a strip are alike
pub alike : (s : Shape) (rows : List Row) → ThreeStagedSet s rows → (q r : Row) → In q rows → In r rows → Alike q r
alike s rows set q r i j = in_every (Alike q) j (in_every (λ (b : Row). All (Alike b) rows) i set.alike)
