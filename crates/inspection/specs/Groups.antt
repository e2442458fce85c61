-- Groups of pieces that no cut of a stage parts.
use Rattle.std.specs.Prelude.{◌≡◌, ℕ, ◌+◌, ◌<◌, ◌≤◌, ◌⊎◌}
use Rattle.layout.specs.declared.rect.Span.{Span}
use Rattle.layout.specs.declared.rect.Rect.{Rect}
use Rattle.layout.specs.Apart.{Within, Pieces, Holds}
use Rattle.layout.specs.Changes.{slice, Solid}

-- the piece i of the part ends beyond u and begins before a cut right after u would end
abbrev pub Meets : Pieces → Rect → ℕ → Span → ℕ → Type 0
Meets ps R g u i = Holds ps R i × ((ps.place i).along.from < u.to + g) × (u.to < (ps.place i).along.to)

-- some such piece ends at t
abbrev pub Longer : Pieces → Rect → ℕ → Span → ℕ → Type 0
Longer ps R g u t = (i : ℕ) × Meets ps R g u i × ((ps.place i).along.to ≡ t)

-- there is no such piece
abbrev pub NoneLonger : Pieces → Rect → ℕ → Span → Type 0
NoneLonger ps R g u = (i : ℕ) → Meets ps R g u i → ⊥

-- the part holds no piece
abbrev pub HoldsNone : Pieces → Rect → Type 0
HoldsNone ps R = (i : ℕ) → Holds ps R i → ⊥

-- u is the extent of a piece of the part, and no piece of the part begins lower
pub record Lowest (ps : Pieces) (R : Rect) (u : Span) : Type 0 where
  pub which : ℕ
  pub held : Holds ps R which
  pub extent : (ps.place which).along ≡ u
  pub low : (k : ℕ) → Holds ps R k → u.from ≤ (ps.place k).along.from

-- a group in the making: no cut goes into it, and no piece begins lower
pub record Growing (g : ℕ) (ps : Pieces) (R : Rect) (u : Span) : Type 0 where
  pub within : Within u R.along
  pub some : u.from < u.to
  pub low : (k : ℕ) → Holds ps R k → u.from ≤ (ps.place k).along.from
  pub solid : Solid g ps (slice u R)

-- the first group of the part R: no cut goes into it, and each piece lies in it or begins beyond it, with room for the saw between
pub record Group (g : ℕ) (ps : Pieces) (R : Rect) (u : Span) : Type 0 where
  pub within : Within u R.along
  pub some : u.from < u.to
  pub first : (i : ℕ) → Holds ps R i → Within (ps.place i).along u ⊎ (u.to + g ≤ (ps.place i).along.from)
  pub solid : Solid g ps (slice u R)
