use Rattle.std.proofs.Common.{◌≡◌, map, take}
use Rattle.layout.specs.Places.{place_of}
use Rattle.inspection.proofs.plate.LawfulPlate.put_places.Given as goal

abbrev pub invariant-loop-row : goal.invariant-loop-row
invariant-loop-row l = l.places.items ≡ map (place_of l.self.kinds.now) (take l.row-index l.self.rows.now)
