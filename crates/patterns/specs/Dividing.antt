-- What the dividing position of the three-staged pattern keeps to.
use Rattle.std.specs.Prelude.{◌≡◌, ℕ, ◌<◌, ◌≤◌, true, false}
use Rattle.layout.specs.Tasks.{Model}
use Rattle.patterns.specs.Strips.{Pricing}
use Rattle.patterns.specs.Named.{Division, divided}

-- of the positions up to n this one has the greatest sum, and it is the lowest such
pub record LowestBest {W : Type 0} (p : Pricing W) (m : Model) (n : ℕ) (d : Division W) : Type 0 where
  pub reached : d.place ≤ n
  pub is : d ≡ divided p m d.place
  pub greatest : (c : ℕ) → c ≤ n → p.scale.less d.worth (divided p m c).worth ≡ false
  pub lowest : (c : ℕ) → c < d.place → p.scale.less (divided p m c).worth d.worth ≡ true
