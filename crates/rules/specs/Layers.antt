-- What each layer makes of the rule below it: its set is exactly what arises from the set below, and its named pattern arises from the named one below.
use Rattle.std.specs.Prelude.{◌≡◌, ℕ, ◌+◌, ◌<◌, ◌⊎◌, List, map, if◌then◌else◌, nat_lt}
use Rattle.layout.specs.declared.row.Row.{Row}
use Rattle.layout.specs.Tasks.{Model, Shape, worth}
use Rattle.layout.specs.Variants.{exchanged_model, exchanged_shape, widened_model, widened_shape, trimmed_model, trimmed_shape}

-- the rows arise by the change from some list of the set
abbrev pub Arises : (List Row → List Row) → (List Row → Type 0) → List Row → Type 0
Arises change set rows = (low : List Row) × set low × (rows ≡ change low)

-- Turning: below, the sides of the plate and of all kinds are exchanged; then x and y of each row are.
abbrev pub exchanged_row : Row → Row
exchanged_row r = record { kind = r.kind; turned = r.turned; segment = r.segment; strip = r.strip; spare = r.spare; x = r.y; y = r.x }

abbrev pub TurningPatterns : (Shape → List Row → Type 0) → Shape → List Row → Type 0
TurningPatterns below s = Arises (map exchanged_row) (below (exchanged_shape s))

abbrev pub turning_named : (Model → List Row) → Model → List Row
turning_named below m = map exchanged_row (below (exchanged_model m))

-- Trimming by t: below, the sides of the plate are less by 2t, never under 0; then t is added to x and y of each row.
abbrev pub moved_row : ℕ → Row → Row
moved_row t r = record { kind = r.kind; turned = r.turned; segment = r.segment; strip = r.strip; spare = r.spare; x = r.x + t; y = r.y + t }

abbrev pub TrimmingPatterns : ℕ → (Shape → List Row → Type 0) → Shape → List Row → Type 0
TrimmingPatterns t below s = Arises (map (moved_row t)) (below (trimmed_shape t s))

abbrev pub trimming_named : ℕ → (Model → List Row) → Model → List Row
trimming_named t below m = map (moved_row t) (below (trimmed_model t m))

-- why a trimming is not made: 6 a trim above 100
abbrev pub TrimCause : ℕ → ℕ → Type 0
TrimCause t c = (c ≡ 6) × (100 < t)

-- Saw width g: below, g is added to the sides of the plate and of all kinds; the rows stay as they are.
abbrev pub SawPatterns : ℕ → (Shape → List Row → Type 0) → Shape → List Row → Type 0
SawPatterns g below s = Arises (λ rows. rows) (below (widened_shape g s))

abbrev pub saw_named : ℕ → (Model → List Row) → Model → List Row
saw_named g below m = below (widened_model g m)

-- why a saw layer is not made: 6 a saw width above 20, 17 a reach below that is under it
abbrev pub SawCause : ℕ → ℕ → ℕ → Type 0
SawCause g reach c = ((c ≡ 6) × (20 < g)) ⊎ ((c ≡ 17) × (reach < g))

-- Better-of-two: both sets together; the first's named pattern, unless the second's is worth more.
abbrev pub EitherPatterns : (Shape → List Row → Type 0) → (Shape → List Row → Type 0) → Shape → List Row → Type 0
EitherPatterns first second s rows = first s rows ⊎ second s rows

abbrev pub better_named : (Model → List Row) → (Model → List Row) → Model → List Row
better_named first second m = if nat_lt (worth m (first m)) (worth m (second m)) then second m else first m
