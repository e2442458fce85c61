use Rattle.std.proofs.Common.{rules, MatchOption}
use Rattle.std.proofs.lemmas.Iterator.{YieldsList-from_slice}
use Rattle.inspection.specs.Directions.{placed}
use Rattle.inspection.specs.Groups.{HoldsNone, Lowest}
use Rattle.inspection.proofs.Held.{held_chain, items_of_run, lowest_picked}
use Rattle.inspection.proofs.cutting.Cutting.lowest.Goals as goal

pub returns : goal.returns
returns c =
    let d = c.args.direction in
    let R = c.args.part in
    let places = c.args.self.now.places.now in
    let p = c.min_by_key.ensures.runs in
    let items = items_of_run p.0 _ _ p.1 p.2 (held_chain _ d R places (YieldsList-from_slice places (cc)) c.filter_map.ensures.closure (λ x r q k. search rules)) in
    let chosen : MatchOption c.min_by_key.result (HoldsNone (placed d places) R) (λ m. Lowest (placed d places) R m.along) = lowest_picked d R places p.0 items _ _ (λ x k q call. search rules) _ (λ a r q call. search rules) p.3 in
    search rules
