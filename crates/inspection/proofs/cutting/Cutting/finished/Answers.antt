use Rattle.std.proofs.Common.{rules, ◌≡◌, Bool, true, false, not, Option, Some, None, is_some, refl}
use borrow.Author.Tests.{tests}
use Rattle.std.proofs.lemmas.Iterator.{YieldsList-from_slice}
use Rattle.layout.specs.declared.rect.Rect.{Rect}
use Rattle.layout.specs.Apart.{Exact}
use Rattle.inspection.proofs.Held.{held_chain, finished_empty, finished_exact, finished_loose}
use Rattle.inspection.proofs.cutting.Cutting.finished.Goals as goal

pub returns-in-None : goal.returns-in-None
returns-in-None c =
    let d = c.args.direction in
    let R = c.args.part in
    let places = c.args.self.now.places.now in
    (λ _. finished_empty _ d R places c.in-None.is c.next.ensures.steps (held_chain _ d R places (YieldsList-from_slice places (cc)) c.filter_map-pieces.ensures.closure (λ x r q k. search rules)), λ _. refl)

-- `is_none` answers whether nothing is there
is_none_so : (r : Option Rect) (b : Bool) → is_some r ≡ not b → (b ≡ true → r ≡ None) × (r ≡ None → b ≡ true)
is_none_so None true e = (λ _. refl, λ _. refl)
is_none_so None false e = (λ _. refl, λ _. cc)
is_none_so (Some P) true e = (λ _. cc, λ _. refl)
is_none_so (Some P) false e = (λ t. cc, λ n. cc)

pub returns-then-eq : goal.returns-then-eq
returns-then-eq c =
    let d = c.args.direction in
    let R = c.args.part in
    let places = c.args.self.now.places.now in
    let exact : Exact R c.in-Some.piece = search (rules, tests) in
    let ends = finished_exact _ d R places _ c.in-Some.piece c.in-Some.is c.next.ensures.steps c.next-then-eq.ensures.steps exact (held_chain _ d R places (YieldsList-from_slice places (cc)) c.filter_map-pieces.ensures.closure (λ x r q k. search rules)) in
    let none = is_none_so _ _ c.is_none.ensures in
    (λ t. ends.0 (none.0 t), λ f. none.1 (ends.1 f))

pub returns-else-eq : goal.returns-else-eq
returns-else-eq c =
    let d = c.args.direction in
    let R = c.args.part in
    let places = c.args.self.now.places.now in
    let exact : Exact R c.in-Some.piece → c.eq.result ≡ true = search (rules, tests) in
    let differs : c.eq.result ≡ true → ⊥ = λ t. cc in
    (λ t. absurd (differs t), λ f. absurd (finished_loose _ d R places c.in-Some.piece c.in-Some.is c.next.ensures.steps (λ x. differs (exact x)) (held_chain _ d R places (YieldsList-from_slice places (cc)) c.filter_map-pieces.ensures.closure (λ x r q k. search rules)) f))
