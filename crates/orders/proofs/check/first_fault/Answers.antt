use Rattle.std.proofs.Common.{◌≡◌, ◌-◌, ◌<◌, ◌≤◌, true, false, Option, Some, None, MatchOption, length, take, sym, refl, ap, ◌∙◌, subst, arith, rules}
use Rattle.std.specs.Option.{IfSome, is_some}
use Rattle.std.proofs.lemmas.List.{take_all}
use Rattle.std.proofs.lemmas.Bool.{ltb-true, ltb-false}
use Rattle.text.specs.Places.{line_after, column_after}
use Rattle.orders.specs.Orders.{Lawful, LeftAtFault}
use Rattle.orders.proofs.Spots.{too_long, same_before, at_fault}
use Rattle.orders.proofs.Unique.{fault_only}
use Rattle.orders.proofs.check.first_fault.Goals as goal

pub returns-in-Err : goal.returns-in-Err
returns-in-Err c =
    let t = c.args.text.now in
    let front = c.within_limit-front.result.now in
    let size = length front in
    let is_front = c.within_limit-front.ensures.front in
    let least = c.within_limit-front.ensures.size in
    let left = c.in-Err.fault.left.now in
    let faulty = subst (λ z. LeftAtFault z left) is_front c.in-Err.ensures in
    let n = size - length left in
    let same : take n front ≡ take n t = ap (take n) is_front ∙ same_before t size least left faulty in
    record {
      after = n;
      fault = fault_only t n (at_fault t size least left faulty);
      code = refl;
      line = c.place_after.ensures.line ∙ ap line_after same;
      column = c.place_after.ensures.column ∙ ap column_after same;
    }

by_cases : {A : Type 0} (r : Option A) {P Q : A → Type 0} {N : Type 0} → IfSome r P → (is_some r ≡ false → N) → ((x : A) → is_some r ≡ true → P x → Q x) → MatchOption r N Q
by_cases None s given_none given_some = given_none refl
by_cases (Some x) s given_none given_some = given_some x refl s

pub returns-in-Ok : goal.returns-in-Ok
returns-in-Ok c =
    let t = c.args.text.now in
    let size = length c.within_limit-front.result.now in
    let is_front = c.within_limit-front.ensures.front in
    let least = c.within_limit-front.ensures.size in
    by_cases c.then.result c.then.ensures.some
    (λ none.
    let all : length t ≤ size = ltb-false size (length t) (sym c.then.ensures.variant ∙ none) in
    (subst Lawful (is_front ∙ take_all size t all) c.in-Ok.ensures, omega (arith, least, all)))
    (λ p some told.
    let longer : size < length t = ltb-true size (length t) (sym c.then.ensures.variant ∙ some) in
    let line : p.line ≡ line_after c.within_limit-front.result.now = search rules in
    let column : p.column ≡ column_after c.within_limit-front.result.now = search rules in
    record {
      after = size;
      fault = fault_only t size (too_long t size least (subst Lawful is_front c.in-Ok.ensures) longer);
      code = refl;
      line = line ∙ ap line_after is_front;
      column = column ∙ ap column_after is_front;
    })
