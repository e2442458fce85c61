-- Strips that are laid one above the other.
use Rattle.std.proofs.Common.{◌≡◌, ℕ, suc, ◌+◌, ◌<◌, ◌≤◌, List, [], ◌∷◌, ◌++◌, length, get_or, take, drop, sym, refl, ap, ◌∙◌, append_assoc, arith}
use Rattle.std.proofs.Math.Seq.{take-append-add}
use Rattle.std.proofs.lemmas.List.{at_drop_more, length-append, length-take-le, take-append-le}
use Rattle.layout.specs.declared.row.Row.{Row}
use Rattle.patterns.specs.declared.Oriented.{Oriented}
use Rattle.patterns.specs.Numbers.{no_piece}
use Rattle.patterns.specs.Strips.{rows_of_strip}
use Rattle.engines.specs.declared.segment.Corner.{Corner}
use Rattle.engines.specs.Fillings.{Filled, strip_of}
use Rattle.engines.specs.Writing.{corner_above, strip_rows}
use Rattle.engines.proofs.Chosen.{strip_across}

pub length_strip : (g n y x : ℕ) (os : List Oriented) → length (rows_of_strip g n y x os) ≡ length os
length_strip g n y x [] = refl
length_strip g n y x (o ∷ os) = ap suc (length_strip g n y (x + o.along) os)

-- the front of rows of which a part was written anew
pub front_more : (end n : ℕ) (rows new post : List Row) → end ≤ length rows → n ≤ length new → take (end + n) (take end rows ++ (new ++ post)) ≡ take end rows ++ take n new
front_more end n rows new post room few =
    ap (λ k. take (k + n) (take end rows ++ (new ++ post))) (sym (length-take-le end rows room))
    ∙ take-append-add (take end rows) (new ++ post) n
    ∙ ap (λ t. take end rows ++ t) (take-append-le n new post few)

module _ (f : Filled) (l : ℕ) (os chosen : List Oriented) (i : ℕ) (known : i < length chosen) (k : Corner) where
  -- the number of the next strip
  abbrev pub next : Oriented
  next = get_or chosen i no_piece

  -- the rows of the next strip
  abbrev pub next_rows : List Row
  next_rows = rows_of_strip k.segment k.strip k.y k.x (strip_of f l os next).pieces

  -- the strips above it
  abbrev pub later_rows : List Row
  later_rows = strip_rows f (corner_above k next) l os (drop (i + 1) chosen)

  pub next_strip : strip_rows f k l os (drop i chosen) ≡ next_rows ++ later_rows
  next_strip =
      let e : suc k.strip ≡ k.strip + 1 = omega arith in
      at_drop_more (strip_rows f k l os) chosen i no_piece known
      ∙ ap (λ n. next_rows ++ strip_rows f (record { segment = k.segment; strip = n; x = k.x; y = k.y + (strip_of f l os next).across }) l os (drop (i + 1) chosen)) e
      ∙ ap (λ h. next_rows ++ strip_rows f (record { segment = k.segment; strip = k.strip + 1; x = k.x; y = k.y + h }) l os (drop (i + 1) chosen)) (strip_across f l os next)

  pub strip_length : length (strip_rows f k l os (drop i chosen)) ≡ length (strip_of f l os next).pieces + length later_rows
  strip_length = ap length next_strip ∙ length-append next_rows later_rows ∙ ap (λ n. n + length later_rows) (length_strip k.segment k.strip k.y k.x (strip_of f l os next).pieces)

  -- so many rows are written; then the next strip, so that the strips above it are left
  pub strip_more : (end n : ℕ) (rows new post whole : List Row) → end ≤ length rows → n ≤ length new → take n new ≡ next_rows → take end rows ++ strip_rows f k l os (drop i chosen) ≡ whole → take (end + n) (take end rows ++ (new ++ post)) ++ later_rows ≡ whole
  strip_more end n rows new post whole room few written so_far =
      ap (λ t. t ++ later_rows) (front_more end n rows new post room few ∙ ap (λ t. take end rows ++ t) written)
      ∙ append_assoc (take end rows) next_rows later_rows
      ∙ sym (ap (λ t. take end rows ++ t) next_strip)
      ∙ so_far
