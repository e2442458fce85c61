-- The pieces that a part holds, as a list: what the chains over the places find.
use Rattle.std.proofs.Common.{◌≡◌, ℕ, zero, suc, ◌<◌, ◌≤◌, List, [], ◌∷◌, length as size, get_or, Some, None, Option, MatchOption, IfSome, IsSomeAnd, true, false, Bor, map, option_map, Contains, sym, ap, ◌∙◌, refl, subst, arith}
use Rattle.std.specs.List.{filter_map, cons_option}
use native.Mathlib.Decide.{dec_le, dec_lt}
use Rattle.std.proofs.lemmas.List.{get_or_default}
use Rattle.std.proofs.lemmas.Iterator.{YieldsList, items_from_drains}
use Rattle.std.proofs.lemmas.Iterator.Consumers.{YieldsList-from_filter_map}
use Rattle.std.specs.declared.iter.FilterMap.{FilterMap}
use Rattle.std.specs.Iterator.Adapters.{filter_map_source, filter_map_callee, filter_map_steps}
use Rattle.std.specs.Iterator.{DrainsIf}
use Rattle.std.specs.Iterator.Runs.{Run, YieldsRun, AnyItem, AllItems, NoKeyBeyond, CallKeepsClosure}
use Rattle.std.specs.Fn.{Called, CalledAt}
use Rattle.std.specs.Ordering.{is_lt, nat_cmp}
use Rattle.std.proofs.lemmas.Map.Keys.{ge_from_not_lt}
use denote.Param.Members.{Mut}
use Rattle.layout.specs.declared.rect.Rect.{Rect}
use Rattle.layout.specs.Apart.{Inside, Holds, Exact, Finished}
use Rattle.inspection.specs.declared.places.Direction.{Direction}
use Rattle.inspection.specs.Directions.{seen, placed, HeldIn}
use Rattle.inspection.specs.Groups.{HoldsNone, Lowest}

-- whether a rectangle lies inside another can be told
pub dec_inside : (Q R : Rect) → Dec (Inside Q R)
dec_inside Q R = go (dec_le R.along.from Q.along.from) (dec_le Q.along.to R.along.to) (dec_le R.across.from Q.across.from) (dec_le Q.across.to R.across.to)
  where
    go : Dec (R.along.from ≤ Q.along.from) → Dec (Q.along.to ≤ R.along.to) → Dec (R.across.from ≤ Q.across.from) → Dec (Q.across.to ≤ R.across.to) → Dec (Inside Q R)
    go (yes a) (yes b) (yes c) (yes d) = yes ((a, b), (c, d))
    go (no n) _ _ _ = no (λ h. n h.0.0)
    go (yes _) (no n) _ _ = no (λ h. n h.0.1)
    go (yes _) (yes _) (no n) _ = no (λ h. n h.1.0)
    go (yes _) (yes _) (yes _) (no n) = no (λ h. n h.1.1)

-- what is found at a place, by the test
pub found_by : {Q R : Rect} → Dec (Inside Q R) → Option Rect
found_by {Q} (yes _) = Some Q
found_by (no _) = None

-- the same at a place, seen in a direction
unfoldable pub found_at : Direction → Rect → Rect → Option Rect
found_at d R place = found_by (dec_inside (seen d place) R)

-- and that is what is to be found there
found_so : (d : Direction) (R place : Rect) → HeldIn d R place (found_at d R place)
unfolding found_at found_by
found_so d R place = go (dec_inside (seen d place) R)
  where
    go : (dec : Dec (Inside (seen d place) R)) → HeldIn d R place (found_by dec)
    go (yes i) = (refl, i)
    go (no n) = n

-- nothing else is found there
is_found : (d : Direction) (R place : Rect) (found : Option Rect) → HeldIn d R place found → found ≡ found_at d R place
is_found d R place found h = go found (found_at d R place) h (found_so d R place)
  where
    go : (found other : Option Rect) → HeldIn d R place found → HeldIn d R place other → found ≡ other
    go None None h k = refl
    go None (Some Q) h k = absurd (h (subst (λ (Q : Rect). Inside Q R) k.0 k.1))
    go (Some Q) None h k = absurd (k (subst (λ (Q : Rect). Inside Q R) h.0 h.1))
    go (Some Q) (Some P) h k = ap (λ (Q : Rect). Some Q) (h.0 ∙ sym k.0)

-- the pieces that the part R holds, in the order of their places
abbrev pub all_held : Direction → Rect → List Rect → List Rect
all_held d R places = filter_map (found_at d R) places

-- a chain over the places whose closure finds the pieces gives that list
pub held_chain : {S F : Type 0} {steps : S → Option (Bor Rect) → S → Type 0} {s : FilterMap S F} {f : F} (g : Mut F (Bor Rect × Unit {0}) (Option Rect)) (d : Direction) (R : Rect) (places : List Rect) → YieldsList steps (λ y. y.now) (filter_map_source s) places → filter_map_callee s ≡ f → ((x : Bor Rect) (found : Option Rect) (q : F) → Called g f (x, tt) found q → (q ≡ f) × HeldIn d R x.now found) → YieldsList (filter_map_steps steps g) (λ y. y) s (all_held d R places)
held_chain g d R places chain callee calls =
    YieldsList-from_filter_map g (found_at d R) chain callee (λ x found q call. ((calls x found q call).0, is_found d R x.now found (calls x found q call).1))

-- each of them is in the list, and nothing else is
pub held_listed : (d : Direction) (R : Rect) (places : List Rect) (k : ℕ) → Holds (placed d places) R k → Contains (all_held d R places) ((placed d places).place k)
held_listed d R [] k h = absurd (omega (arith, h.0))
held_listed d R (P ∷ places) zero h = go (found_at d R P) (found_so d R P)
  where
    go : (found : Option Rect) → HeldIn d R P found → Contains (cons_option found (all_held d R places)) (seen d P)
    go None none = absurd (none h.1)
    go (Some Q) so = (0, omega arith, so.0)
held_listed d R (P ∷ places) (suc k) h = go (found_at d R P) (held_listed d R places k (omega (arith, h.0), h.1))
  where
    go : (found : Option Rect) → Contains (all_held d R places) ((placed d places).place k) → Contains (cons_option found (all_held d R places)) ((placed d places).place k)
    go None c = c
    go (Some Q) (j, lt, e) = (suc j, omega arith, e)

-- the piece k of some places is Q, and the part holds it
abbrev pub IsHeld : Direction → Rect → List Rect → Rect → ℕ → Type 0
IsHeld d R places Q k = Holds (placed d places) R k × ((placed d places).place k ≡ Q)

pub listed_held : (d : Direction) (R : Rect) (places : List Rect) (Q : Rect) → Contains (all_held d R places) Q → (k : ℕ) × IsHeld d R places Q k
listed_held d R [] Q (j, lt, e) = absurd (omega arith)
listed_held d R (P ∷ places) Q c = go (found_at d R P) (found_so d R P) (λ c. up (listed_held d R places Q c)) c
  where
    up : (k : ℕ) × IsHeld d R places Q k → (k : ℕ) × IsHeld d R (P ∷ places) Q k
    up (k, (h, e)) = (suc k, ((omega (arith, h.0), h.1), e))

    go : (found : Option Rect) → HeldIn d R P found → (Contains (all_held d R places) Q → (k : ℕ) × IsHeld d R (P ∷ places) Q k) → Contains (cons_option found (all_held d R places)) Q → (k : ℕ) × IsHeld d R (P ∷ places) Q k
    go None none later c = later c
    go (Some S) so later (zero, lt, e) = (0, ((omega arith, subst (λ (S : Rect). Inside S R) so.0 so.1), sym so.0 ∙ e))
    go (Some S) so later (suc j, lt, e) = later (j, omega arith, e)

-- two pieces that the part holds make a list of two or more, and such a list comes from two pieces
pub two_listed : (d : Direction) (R : Rect) (places : List Rect) (i j : ℕ) → i < j → Holds (placed d places) R i → Holds (placed d places) R j → 2 ≤ size (all_held d R places)
two_listed d R [] i j lt hi hj = absurd (omega (arith, hj.0))
two_listed d R (P ∷ places) i zero lt hi hj = absurd (omega arith)
two_listed d R (P ∷ places) zero (suc j) lt hi hj = go (found_at d R P) (found_so d R P) (held_listed d R places j (omega (arith, hj.0), hj.1))
  where
    go : (found : Option Rect) → HeldIn d R P found → Contains (all_held d R places) ((placed d places).place j) → 2 ≤ size (cons_option found (all_held d R places))
    go None none c = absurd (none hi.1)
    go (Some Q) so (k, more, e) = omega arith
two_listed d R (P ∷ places) (suc i) (suc j) lt hi hj = go (found_at d R P) (two_listed d R places i j (omega arith) (omega (arith, hi.0), hi.1) (omega (arith, hj.0), hj.1))
  where
    go : (found : Option Rect) → 2 ≤ size (all_held d R places) → 2 ≤ size (cons_option found (all_held d R places))
    go None le = le
    go (Some Q) le = omega arith

-- the part holds the pieces i and j, and j comes later
abbrev pub HoldsBoth : Direction → Rect → List Rect → ℕ → ℕ → Type 0
HoldsBoth d R places i j = (i < j) × Holds (placed d places) R i × Holds (placed d places) R j

pub listed_two : (d : Direction) (R : Rect) (places : List Rect) → 2 ≤ size (all_held d R places) → (i : ℕ) × (j : ℕ) × HoldsBoth d R places i j
listed_two d R [] le = absurd (omega arith)
listed_two d R (P ∷ places) le = go (found_at d R P) (found_so d R P) (λ le. up (listed_two d R places le)) le
  where
    up : (i : ℕ) × (j : ℕ) × HoldsBoth d R places i j → (i : ℕ) × (j : ℕ) × HoldsBoth d R (P ∷ places) i j
    up (i, j, (lt, hi, hj)) = (suc i, suc j, (omega arith, (omega (arith, hi.0), hi.1), (omega (arith, hj.0), hj.1)))

    more : (Q : Rect) → Inside (seen d P) R → (k : ℕ) × IsHeld d R places Q k → (i : ℕ) × (j : ℕ) × HoldsBoth d R (P ∷ places) i j
    more Q ins (k, (h, e)) = (0, suc k, (omega arith, (omega arith, ins), (omega (arith, h.0), h.1)))

    go : (found : Option Rect) → HeldIn d R P found → (2 ≤ size (all_held d R places) → (i : ℕ) × (j : ℕ) × HoldsBoth d R (P ∷ places) i j) → 2 ≤ size (cons_option found (all_held d R places)) → (i : ℕ) × (j : ℕ) × HoldsBoth d R (P ∷ places) i j
    go None none later le = later le
    go (Some Q) so later le =
        more (get_or (all_held d R places) 0 Q) (subst (λ (Q : Rect). Inside Q R) so.0 so.1) (listed_held d R places (get_or (all_held d R places) 0 Q) (0, omega arith, get_or_default (all_held d R places) 0 _ Q (omega arith)))

-- When a part is finished, by the list of its pieces.
pub none_finished : (d : Direction) (R : Rect) (places : List Rect) → all_held d R places ≡ [] → Finished Exact (placed d places) R
none_finished d R places none i j hi hj =
    let (k, lt, e) = held_listed d R places i hi in
    absurd (omega (arith, ap (λ (xs : List Rect). size xs) none))

pub one_finished : (d : Direction) (R : Rect) (places : List Rect) (Q : Rect) → all_held d R places ≡ Q ∷ [] → Exact R Q → Finished Exact (placed d places) R
one_finished d R places Q one exact i j hi hj = (same (dec_lt i j) (dec_lt j i), subst (λ (Q : Rect). Exact R Q) (here (held_listed d R places i hi)) exact)
  where
    length_one : size (all_held d R places) ≡ 1
    length_one = ap (λ (xs : List Rect). size xs) one

    same : Dec (i < j) → Dec (j < i) → i ≡ j
    same (yes lt) _ = absurd (omega (arith, length_one, two_listed d R places i j lt hi hj))
    same (no _) (yes lt) = absurd (omega (arith, length_one, two_listed d R places j i lt hj hi))
    same (no a) (no b) = omega arith

    first : (P : Rect) → Contains (Q ∷ []) P → Q ≡ P
    first P (zero, lt, e) = e
    first P (suc k, lt, e) = absurd (omega arith)

    here : Contains (all_held d R places) ((placed d places).place i) → Q ≡ (placed d places).place i
    here c = first _ (subst (λ (xs : List Rect). Contains xs ((placed d places).place i)) one c)

pub finished_one : (d : Direction) (R : Rect) (places : List Rect) (Q : Rect) (rest : List Rect) → all_held d R places ≡ Q ∷ rest → Finished Exact (placed d places) R → (rest ≡ []) × Exact R Q
finished_one d R places Q rest all f = (alone rest all, exact (listed_held d R places Q (subst (λ (xs : List Rect). Contains xs Q) (sym all) (0, omega arith, refl))))
  where
    two : (i : ℕ) × (j : ℕ) × HoldsBoth d R places i j → ⊥
    two (i, j, (lt, hi, hj)) = omega (arith, (f i j hi hj).0)

    alone : (rest : List Rect) → all_held d R places ≡ Q ∷ rest → rest ≡ []
    alone [] all = refl
    alone (P ∷ rest) all = absurd (two (listed_two d R places (omega (arith, ap (λ (xs : List Rect). size xs) all))))

    exact : (k : ℕ) × IsHeld d R places Q k → Exact R Q
    exact (k, (h, e)) = subst (λ (Q : Rect). Exact R Q) e (f k k h h).1

-- What a call of `next` says of the list that an iterator gives.
module _ {S : Type 0} {steps : S → Option Rect → S → Type 0} {s : S} {r : Option Rect} (t : S) where
  pub nothing_came : (all : List Rect) → r ≡ None → steps s r t → YieldsList steps (λ y. y) s all → all ≡ []
  nothing_came [] is n e = refl
  nothing_came (Q ∷ all) is n e = absurd (e.runs.0 t (subst (λ (r : Option Rect). steps s r t) is n))

  pub nothing_left : (all : List Rect) → all ≡ [] → steps s r t → YieldsList steps (λ y. y) s all → r ≡ None
  nothing_left [] is n e = none r n
    where
      none : (r : Option Rect) → steps s r t → r ≡ None
      none None n = refl
      none (Some P) n = absurd (e.runs P t n)
  nothing_left (Q ∷ all) is n e = absurd (omega (arith, ap (λ (xs : List Rect). size xs) is))

  pub first_came : (all : List Rect) (P : Rect) → r ≡ Some P → steps s r t → YieldsList steps (λ y. y) s all → (rest : List Rect) × (all ≡ P ∷ rest) × YieldsList steps (λ y. y) t rest
  first_came [] P is n e = absurd (e.runs P t (subst (λ (r : Option Rect). steps s r t) is n))
  first_came (Q ∷ all) P is n e =
      let next = e.runs.1 P t (subst (λ (r : Option Rect). steps s r t) is n) in
      (all, ap (λ (P : Rect). P ∷ all) (sym next.0), record { runs = next.1 })

-- The same where that list is of the pieces that a part holds, and the first one that came is P.
module _ {S : Type 0} {steps : S → Option Rect → S → Type 0} {s : S} {r : Option Rect} (t : S) (d : Direction) (R : Rect) (places : List Rect) where
  pub finished_empty : r ≡ None → steps s r t → YieldsList steps (λ y. y) s (all_held d R places) → Finished Exact (placed d places) R
  finished_empty is n e = none_finished d R places (nothing_came t _ is n e)

  pub finished_exact : {q : Option Rect} (u : S) (P : Rect) → r ≡ Some P → steps s r t → steps t q u → Exact R P → YieldsList steps (λ y. y) s (all_held d R places) → (q ≡ None → Finished Exact (placed d places) R) × (Finished Exact (placed d places) R → q ≡ None)
  finished_exact {q} u P is n m exact e = go (first_came t _ P is n e)
    where
      go : (rest : List Rect) × (all_held d R places ≡ P ∷ rest) × YieldsList steps (λ y. y) t rest → (q ≡ None → Finished Exact (placed d places) R) × (Finished Exact (placed d places) R → q ≡ None)
      go (rest, all, more) = (
        λ none. one_finished d R places P (all ∙ ap (λ (xs : List Rect). P ∷ xs) (nothing_came u rest none m more)) exact,
        λ f. nothing_left u rest (finished_one d R places P rest all f).0 m more,
      )

  pub finished_loose : (P : Rect) → r ≡ Some P → steps s r t → (Exact R P → ⊥) → YieldsList steps (λ y. y) s (all_held d R places) → Finished Exact (placed d places) R → ⊥
  finished_loose P is n loose e f = go (first_came t _ P is n e)
    where
      go : (rest : List Rect) × (all_held d R places ≡ P ∷ rest) × YieldsList steps (λ y. y) t rest → ⊥
      go (rest, all, more) = loose (finished_one d R places P rest all f).1

-- The run of a chain that gives a list has that list's items.
pub items_of_run : {S : Type 0} {steps : S → Option Rect → S → Type 0} (p : Run steps) (s : S) (all : List Rect) → p.from ≡ s → p.whole ≡ true → YieldsList steps (λ y. y) s all → p.items ≡ all
unfolding YieldsRun
items_of_run {steps = steps} p s all from whole e =
    let (t, ran, ends) = subst (λ s. DrainsIf steps (p.whole ≡ true) s p.items) from p.gave.0 in
    sym (map_id p.items) ∙ items_from_drains p.items (t, ran, λ _. ends whole) e
  where
    map_id : (xs : List Rect) → map (λ y. y) xs ≡ xs
    map_id [] = refl
    map_id (x ∷ xs) = ap (λ (xs : List Rect). x ∷ xs) (map_id xs)

-- the item at a place of a run, where it is known to be m, and where P holds of it
item_is : (o : Option Rect) (x m : Rect) → option_map (λ y. y) o ≡ Some x → IsSomeAnd o (λ y. y ≡ m) → x ≡ m
item_is None x m e h = absurd h
item_is (Some y) x m e h = cc

item_has : (P : Rect → Type 0) (o : Option Rect) (x : Rect) → option_map (λ y. y) o ≡ Some x → IfSome o P → P x
item_has P None x e h = cc
item_has P (Some y) x e h = let same : y ≡ x = cc in subst P same h

-- the piece that begins lowest in the part is one of the list whose key is least
module _ {S : Type 0} {steps : S → Option Rect → S → Type 0} (d : Direction) (R : Rect) (places : List Rect) (p : Run steps) (items : p.items ≡ all_held d R places) where
  long : p.len ≡ size (all_held d R places)
  long = p.long ∙ ap (λ (xs : List Rect). size xs) items

  lowest_none : p.len ≡ 0 → HoldsNone (placed d places) R
  lowest_none empty k h = go (held_listed d R places k h)
    where
      go : Contains (all_held d R places) ((placed d places).place k) → ⊥
      go (j, lt, e) = omega (arith, long)

  lowest_some : (m : Rect) → AnyItem p (λ x. x ≡ m) → AllItems p (λ x. m.along.from ≤ x.along.from) → Lowest (placed d places) R m.along
  lowest_some m (k, lt, some) low = go (listed_held d R places m (k, omega (arith, long), listed))
    where
      listed : get_or (all_held d R places) k m ≡ m
      listed = subst (λ (xs : List Rect). get_or xs k m ≡ m) items (item_is (p.at k) _ m (p.reads k m lt) some)

      lower : (Q : Rect) → Contains (all_held d R places) Q → m.along.from ≤ Q.along.from
      lower Q (j, less, e) = item_has (λ (Q : Rect). m.along.from ≤ Q.along.from) (p.at j) Q (p.reads j Q (omega (arith, long)) ∙ ap (λ (Q : Rect). Some Q) (subst (λ (xs : List Rect). get_or xs j Q ≡ Q) (sym items) e)) (low j)

      go : (k : ℕ) × IsHeld d R places m k → Lowest (placed d places) R m.along
      go (k, (h, e)) = record {
        which = k;
        held = h;
        extent = ap (λ (Q : Rect). Q.along) e;
        low = λ j hj. lower _ (held_listed d R places j hj);
      }

  -- where the keys that a closure computes are where the pieces begin
  module _ {F : Type 0} (g : Mut F (Bor Rect × Unit {0}) ℕ) (f : F) (key : (x : Rect) (k : ℕ) (q : F) → CalledAt g f x k q → (q ≡ f) × (k ≡ x.along.from)) where
    none_lower : (m : Rect) → ((i : ℕ) × CalledAt g f m i f × AllItems p (λ x. (j : ℕ) × CalledAt g f x j f × (is_lt (nat_cmp j i) ≡ false))) → AllItems p (λ x. m.along.from ≤ x.along.from)
    none_lower m (i, call, all) k = at (p.at k) (all k)
      where
        at : (o : Option Rect) → IfSome o (λ x. (j : ℕ) × CalledAt g f x j f × (is_lt (nat_cmp j i) ≡ false)) → IfSome o (λ x. m.along.from ≤ x.along.from)
        at None h = h
        at (Some x) (j, here, not_less) = omega (arith, (key m i f call).1, (key x j f here).1, ge_from_not_lt j i not_less)

    pub lowest_picked : (r : Option Rect) → CallKeepsClosure g f → MatchOption r (p.len ≡ 0) (λ m. AnyItem p (λ x. x ≡ m) × NoKeyBeyond p g f is_lt nat_cmp m) → MatchOption r (HoldsNone (placed d places) R) (λ m. Lowest (placed d places) R m.along)
    lowest_picked None keeps empty = lowest_none empty
    lowest_picked (Some m) keeps (some, least) = lowest_some m some (none_lower m (least keeps))
