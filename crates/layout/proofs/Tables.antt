-- What is known of the places of a table.
use Rattle.std.proofs.lemmas.List.{take-map, take-replicate, length-take-le}

-- the front of a list that was changed throughout, or made of one thing
pub ruleset fronts = (take-map, take-replicate, length-take-le)
