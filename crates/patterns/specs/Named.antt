-- The patterns that the two rules name, for any worth.
use Rattle.std.specs.Prelude.{ℕ, zero, suc, ◌-◌, if◌then◌else◌, List, [], ◌∷◌, ◌++◌, map}
use Rattle.layout.specs.declared.row.Row.{Row}
use Rattle.layout.specs.Tasks.{Model}
use Rattle.patterns.specs.declared.Oriented.{Oriented}
use Rattle.patterns.specs.Numbers.{numbers}
use Rattle.patterns.specs.Strips.{Pricing, Strip, Segment, general_strip, uniform_strip, no_longer, stack, lay}

-- the numbers in the order in which their strips are preferred: the lower number first
abbrev pub preferred : List Oriented → List Oriented
preferred os = os

-- ---- two-staged general

-- the strips of the plate
abbrev pub two_staged_segment : {W : Type 0} → Pricing W → Model → Segment W
two_staged_segment p m =
    let os = numbers m in
    stack p.scale m.width (map (general_strip p m.length os) (preferred os))

-- the pattern: these strips from the corner on
abbrev pub two_staged_pattern : {W : Type 0} → Pricing W → Model → List Row
two_staged_pattern p m = lay 0 0 0 0 (two_staged_segment p m).strips

-- ---- three-staged homogenous

-- the strips of a segment of length c
abbrev pub segment_at : {W : Type 0} → Pricing W → Model → ℕ → Segment W
segment_at p m c = stack p.scale m.width (map (uniform_strip p c) (no_longer c (preferred (numbers m))))

-- a dividing position, with the worth of what stands on both sides
pub record Division (W : Type 0) : Type 0 where
  pub place : ℕ
  pub worth : W

-- the plate divided at c
abbrev pub divided : {W : Type 0} → Pricing W → Model → ℕ → Division W
divided p m c = record { place = c; worth = p.scale.plus (segment_at p m c).worth (segment_at p m (m.length - c)).worth }

-- the best dividing position up to c, the lowest of equals
abbrev pub division : {W : Type 0} → Pricing W → Model → ℕ → Division W
division p m zero = divided p m 0
division p m (suc c) =
    let before = division p m c in
    let here = divided p m (suc c) in
    if p.scale.less before.worth here.worth then here else before

-- a segment from 0 on and a segment from c on; the right one has number 0 where the left has no strips
abbrev pub side_by_side : {W : Type 0} → ℕ → List (Strip W) → List (Strip W) → List Row
side_by_side c [] right = lay 0 0 c 0 right
side_by_side c (s ∷ ss) right = lay 0 0 0 0 (s ∷ ss) ++ lay 1 0 c 0 right

-- the pattern: the plate at its best dividing position
abbrev pub three_staged_pattern : {W : Type 0} → Pricing W → Model → List Row
three_staged_pattern p m =
    let c = (division p m m.length).place in
    side_by_side c (segment_at p m c).strips (segment_at p m (m.length - c)).strips
