-- Strips, the choice of strips in a segment, and how they are laid, for any worth.
use Rattle.std.specs.Prelude.{ℕ, zero, suc, ◌+◌, ◌/◌, List, [], ◌∷◌, ◌++◌, map, replicate, filter, nat_le, slice_index_or}
use Rattle.layout.specs.declared.row.Row.{Row}
use Rattle.choosing.specs.declared.Candidate.{Candidate}
use Rattle.choosing.specs.Choice.{first}
use Rattle.choosing.specs.Plain.{plain}
use Rattle.choosing.specs.Worth.{Scale}
use Rattle.patterns.specs.Numbers.{no_piece}
use Rattle.patterns.specs.declared.Oriented.{Oriented}

-- a worth, and what one piece of a value is worth in it
pub record Pricing (W : Type 0) : Type 0 where
  pub scale : Scale W
  pub piece : ℕ → W

-- a piece is worth its value
abbrev pub by_value : Pricing ℕ
by_value = record { scale = plain; piece = λ v. v }

-- n times the same worth
abbrev pub times : {W : Type 0} → Scale W → ℕ → W → W
times s zero w = s.nothing
times s (suc n) w = s.plus w (times s n w)

-- a strip: how far it reaches across the plate, its pieces from left to right, and what they are worth
pub record Strip (W : Type 0) : Type 0 where
  pub across : ℕ
  pub pieces : List Oriented
  pub worth : W

-- what stands past the end of a list of strips
abbrev pub no_strip : {W : Type 0} → Scale W → Strip W
no_strip s = record { across = 0; pieces = []; worth = s.nothing }

-- a piece as a candidate for a strip
abbrev pub by_along : {W : Type 0} → Pricing W → Oriented → Candidate W
by_along p o = record { size = o.along; worth = p.piece o.value }

-- a strip as a candidate for a segment
abbrev pub by_across : {W : Type 0} → Strip W → Candidate W
by_across s = record { size = s.across; worth = s.worth }

-- what stands at each of the positions
abbrev pub at : {A : Type 0} → A → List A → List ℕ → List A
at d xs ks = map (λ k. slice_index_or xs k d) ks

-- those with across size at most h
abbrev pub no_wider : ℕ → List Oriented → List Oriented
no_wider h os = filter (λ (o : Oriented). nat_le o.across h) os

-- those with along size at most l
abbrev pub no_longer : ℕ → List Oriented → List Oriented
no_longer l os = filter (λ (o : Oriented). nat_le o.along l) os

-- the strip of q: of the numbers no wider than q, the first sequence of greatest worth along the length l
abbrev pub general_strip : {W : Type 0} → Pricing W → ℕ → List Oriented → Oriented → Strip W
general_strip p l os q =
    let fitting = no_wider q.across os in
    let choice = first p.scale (map (by_along p) fitting) l in
    record { across = q.across; pieces = at no_piece fitting choice.order; worth = choice.worth }

-- the strip of q alone: as many pieces as the length l holds
abbrev pub uniform_strip : {W : Type 0} → Pricing W → ℕ → Oriented → Strip W
uniform_strip p l q =
    let n = l / q.along in
    record { across = q.across; pieces = replicate n q; worth = times p.scale n (p.piece q.value) }

-- the strips of a segment, lowest first, and what they are worth
pub record Segment (W : Type 0) : Type 0 where
  pub strips : List (Strip W)
  pub worth : W

-- the first sequence of greatest worth of these strips within the width w
abbrev pub stack : {W : Type 0} → Scale W → ℕ → List (Strip W) → Segment W
stack s w strips =
    let choice = first s (map by_across strips) w in
    record { strips = at (no_strip s) strips choice.order; worth = choice.worth }

-- ---- how strips are laid

-- the row of a piece: its segment, its strip, y and x
abbrev pub row : ℕ → ℕ → ℕ → ℕ → Oriented → Row
row segment strip y x o = record { kind = o.kind; turned = o.turned; segment = segment; strip = strip; spare = 0; x = x; y = y }

-- the pieces of a strip side by side from x on
abbrev pub rows_of_strip : ℕ → ℕ → ℕ → ℕ → List Oriented → List Row
rows_of_strip segment strip y x [] = []
rows_of_strip segment strip y x (o ∷ os) = row segment strip y x o ∷ rows_of_strip segment strip y (x + o.along) os

-- strips one above the other from y on, each beginning at x, with numbers from `strip` on
abbrev pub lay : {W : Type 0} → ℕ → ℕ → ℕ → ℕ → List (Strip W) → List Row
lay segment strip x y [] = []
lay segment strip x y (s ∷ ss) = rows_of_strip segment strip y x s.pieces ++ lay segment (suc strip) x (y + s.across) ss
