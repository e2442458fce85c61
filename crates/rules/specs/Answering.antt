-- What a layer answers and leaves in the rows, from what the rule below answered. The lemmas are over plain lists, so that a layer's proof cites them.
use Rattle.std.specs.Prelude.{◌≡◌, ℕ, ◌-◌, ◌<◌, ◌≤◌, Bool, true, false, if◌then◌else◌, nat_lt, List, [], ◌++◌, map, length as size, take, drop, replicate}
use Rattle.std.proofs.Common.{sym, ap, refl, subst, ◌∙◌, inl, inr, arith, lt-ltb, le-ltb}
use Rattle.std.proofs.lemmas.List.{length-map, length-append, length-replicate, take_all, take_at, drop_at, drop_all, append_assoc}
use Rattle.layout.proofs.Tasks.{within_limits}
use Rattle.layout.specs.declared.refusal.Refusal.{Refusal}
use Rattle.layout.specs.declared.row.Row.{Row}
use Rattle.layout.specs.declared.task.Task.{Task}
use Rattle.layout.specs.Models.{model}
use Rattle.layout.specs.Pieces.{blank}
use Rattle.layout.specs.Refusals.{Accepted, RefusedBy, code_of}
use Rattle.layout.specs.Tasks.{Model, Shape, WithinReach, BeyondReach, worth}
use Rattle.rules.specs.Answers.{BestCause, Admitted, Wrote, written}
use Rattle.rules.specs.declared.best.Best.{Best}
use Rattle.rules.specs.Rules.{Asked, RuleLaws}
use Rattle.rules.specs.Layers.{better_named}

-- ---- a task and a reach

-- a longer reach
pub within_more : {near far : ℕ} {m : Model} → near ≤ far → WithinReach near m → WithinReach far m
within_more le w = record { plate = (omega (arith, w.plate.0), omega (arith, w.plate.1)); each = λ i lt. let k = w.each i lt in (omega (arith, k.0), omega (arith, k.1)) }

pub asked_more : {near far : ℕ} {m : Model} → near ≤ far → Asked near m → Asked far m
asked_more le a = record { limits = a.limits; within = within_more le a.within }

-- a task that was admitted is one that the rule answers for
pub admitted_asked : {reach above words rows : ℕ} (t : Task) → Admitted reach (model t) words rows → reach ≡ above → Asked above (model t)
admitted_asked t a far = record { limits = within_limits t; within = subst (λ r. WithinReach r (model t)) far a.within }

-- and what a layer asks below is admitted there, if the rule below answers for it
pub asked_below : {reach above below words rows : ℕ} {asked low : Model} (t : Task) → Admitted reach (model t) words rows → reach ≡ above → asked ≡ low → (Asked above (model t) → Asked below low) → Admitted below asked words rows
asked_below {below = below} t a far same down = record {
  words_enough = a.words_enough;
  rows_enough = a.rows_enough;
  within = subst (WithinReach below) (sym same) (down (admitted_asked t a far)).within;
}

-- ---- causes

-- no side is both within the reach and beyond it
pub within_not_beyond : {reach : ℕ} (m : Model) → WithinReach reach m → BeyondReach reach m → ⊥
within_not_beyond m w (inl long) = omega (arith, w.plate.0, long)
within_not_beyond m w (inr (inl wide)) = omega (arith, w.plate.1, wide)
within_not_beyond m w (inr (inr (i, lt, b))) = let k = w.each i lt in omega (arith, k.0, k.1, b)

-- what is admitted has no cause to be refused
pub no_cause : {reach : ℕ} (m : Model) {words rows : ℕ} → Admitted reach m words rows → Accepted (BestCause reach m words rows)
no_cause m a c (inl (e, inl few)) = omega (arith, a.words_enough, few)
no_cause m a c (inl (e, inr few)) = omega (arith, a.rows_enough, few)
no_cause m a c (inr (e, beyond)) = within_not_beyond m a.within beyond

pub not_refused : {reach : ℕ} (m : Model) {words rows : ℕ} {e : Refusal} → Admitted reach m words rows → RefusedBy (BestCause reach m words rows) e → ⊥
not_refused m {e = e} a by = no_cause m a (code_of e) by.holds

-- what a layer admits is admitted below, if a task within the reach above is asked below within the reach there
pub admitted_below : {above below : ℕ} (m n : Model) {words rows : ℕ} → Admitted above m words rows → (WithinReach above m → WithinReach below n) → Admitted below n words rows
admitted_below m n a down = record { words_enough = a.words_enough; rows_enough = a.rows_enough; within = down a.within }

-- ---- rows

-- a named pattern has at most 4,096 rows
pub named_few : {patterns : Shape → List Row → Type 0} {named : Model → List Row} {reach stages saw : ℕ} (m : Model) → RuleLaws patterns named reach stages saw → Asked reach m → size (named m) ≤ 4096
named_few m laws asked = (laws.proper m asked _ (laws.member m asked)).few

-- each row of a written pattern changed, and nothing else
pub written_changed : (change : Row → Row) (pattern old : List Row) → map change (take (size pattern) (written pattern old)) ++ drop (size pattern) (written pattern old) ≡ written (map change pattern) old
written_changed change pattern old =
    let rest = replicate (4096 - size pattern) blank ++ drop 4096 old in
    ap (λ xs. map change xs ++ drop (size pattern) (pattern ++ rest)) (take_at pattern rest (size pattern) refl)
    ∙ ap (λ xs. map change pattern ++ xs) (drop_at pattern rest (size pattern) refl)
    ∙ ap (λ k. map change pattern ++ (replicate (4096 - k) blank ++ drop 4096 old)) (sym (length-map pattern change))

-- what the rule below wrote of the task asked there is what the layer writes, if it is worth the same above
pub wrote_above : (named : Model → List Row) {m asked low : Model} {old new : List Row} {b : Best} → asked ≡ low → Wrote asked (named asked) old new b → worth m (named low) ≡ worth low (named low) → Wrote m (named low) old new b
wrote_above named {old = old} {new = new} {b = b} same below w =
    let here = subst (λ n. Wrote n (named n) old new b) same below in
    record { rows = here.rows; count = here.count; worth_is = here.worth_is ∙ sym w }

-- and so it is with each row of the pattern changed
pub wrote_changed : (change : Row → Row) (named : Model → List Row) {m asked low : Model} {old mid new : List Row} {b : Best} {n : ℕ} → asked ≡ low → Wrote asked (named asked) old mid b → n ≡ b.rows → new ≡ map change (take n mid) ++ drop n mid → worth m (map change (named low)) ≡ worth low (named low) → Wrote m (map change (named low)) old new b
wrote_changed change named {low = low} {old = old} {mid = mid} {b = b} same below n_is new_is w =
    let here = subst (λ k. Wrote k (named k) old mid b) same below in
    record {
      rows = new_is ∙ ap (λ k. map change (take k mid) ++ drop k mid) (n_is ∙ here.count) ∙ ap (λ xs. map change (take (size (named low)) xs) ++ drop (size (named low)) xs) here.rows ∙ written_changed change (named low) old;
      count = here.count ∙ sym (length-map (named low) change);
      worth_is = here.worth_is ∙ sym w;
    }

-- a pattern with the blanks after it fills 4,096 rows
front_long : (pattern : List Row) → size pattern ≤ 4096 → size (pattern ++ replicate (4096 - size pattern) blank) ≡ 4096
front_long pattern few = omega (arith, length-append pattern (replicate (4096 - size pattern) blank), length-replicate (4096 - size pattern) blank)

-- and stands with them before the rows that are left as they were
grouped : (pattern old : List Row) → written pattern old ≡ (pattern ++ replicate (4096 - size pattern) blank) ++ drop 4096 old
grouped pattern old = sym (append_assoc pattern (replicate (4096 - size pattern) blank) (drop 4096 old))

-- the first 4,096 rows with one pattern copied over those with another
pub copied : (one two old fresh mid other new : List Row) → mid ≡ written one old → other ≡ written two fresh → size one ≤ 4096 → size two ≤ 4096 → new ≡ take 4096 other ++ drop 4096 mid → new ≡ written two old
copied one two old fresh mid other new e₁ e₂ few₁ few₂ h =
    h
    ∙ ap (λ xs. take 4096 xs ++ drop 4096 mid) (e₂ ∙ grouped two fresh)
    ∙ ap (λ xs. xs ++ drop 4096 mid) (take_at (two ++ replicate (4096 - size two) blank) (drop 4096 fresh) 4096 (front_long two few₂))
    ∙ ap (λ xs. (two ++ replicate (4096 - size two) blank) ++ drop 4096 xs) (e₁ ∙ grouped one old)
    ∙ ap (λ xs. (two ++ replicate (4096 - size two) blank) ++ xs) (drop_at (one ++ replicate (4096 - size one) blank) (drop 4096 old) 4096 (front_long one few₁))
    ∙ sym (grouped two old)

-- the second is chosen where it is worth more, else the first
pub second_chosen : (w₁ w₂ : ℕ) (one two : List Row) → w₁ < w₂ → (if nat_lt w₁ w₂ then two else one) ≡ two
second_chosen w₁ w₂ one two lt = ap (λ b. if b then two else one) (lt-ltb w₁ w₂ lt)

pub first_chosen : (w₁ w₂ : ℕ) (one two : List Row) → w₂ ≤ w₁ → (if nat_lt w₁ w₂ then two else one) ≡ one
first_chosen w₁ w₂ one two le = ap (λ b. if b then two else one) (le-ltb w₁ w₂ le)

-- a pattern written to fresh rows, all of which are copied over those with another
copied_whole : (one two old fresh : List Row) → size one ≤ 4096 → size fresh ≤ 4096 → written two fresh ++ drop 4096 (written one old) ≡ written two old
copied_whole one two old fresh few short =
    let front = one ++ replicate (4096 - size one) blank in
    let rest = replicate (4096 - size two) blank in
    let long : size front ≡ 4096 = front_long one few in
    ap (λ xs. (two ++ (rest ++ xs)) ++ drop 4096 (written one old)) (drop_all 4096 fresh short)
    ∙ ap (λ xs. (two ++ (rest ++ [])) ++ drop 4096 xs) (grouped one old)
    ∙ ap (λ xs. (two ++ (rest ++ [])) ++ xs) (drop_at front (drop 4096 old) 4096 long)
    ∙ append_assoc two (rest ++ []) (drop 4096 old)
    ∙ ap (λ xs. two ++ xs) (append_assoc rest [] (drop 4096 old))

-- what better-of-two leaves and answers, from what the two rules wrote
pub wrote_better : (one two : Model → List Row) {m : Model} {old mid fresh other new : List Row} {first second b : Best} → size (one m) ≤ 4096 → size fresh ≤ 4096 → size other ≤ 4096 → Wrote m (one m) old mid first → Wrote m (two m) fresh other second → b ≡ (if nat_lt first.worth second.worth then second else first) → new ≡ (if nat_lt first.worth second.worth then take 4096 other ++ drop 4096 mid else mid) → Wrote m (better_named one two m) old new b
wrote_better one two {m = m} {old = old} {mid = mid} {fresh = fresh} {other = other} {new = new} {first = first} {second = second} {b = b} few short whole f s b_is new_is =
    let t = nat_lt first.worth second.worth in
    let kept = if t then two m else one m in
    subst (λ u. Wrote m (if u then two m else one m) old new b) same
    (subst (λ xs. Wrote m kept old xs b) (sym new_is) (subst (Wrote m kept old (if t then take 4096 other ++ drop 4096 mid else mid)) (sym b_is) (by t)))
  where
    same : nat_lt first.worth second.worth ≡ nat_lt (worth m (one m)) (worth m (two m))
    same = ap (λ w. nat_lt w second.worth) f.worth_is ∙ ap (nat_lt (worth m (one m))) s.worth_is

    by : (t : Bool) → Wrote m (if t then two m else one m) old (if t then take 4096 other ++ drop 4096 mid else mid) (if t then second else first)
    by true = record { rows = ap (λ xs. xs ++ drop 4096 mid) (take_all 4096 other whole ∙ s.rows) ∙ ap (λ xs. written (two m) fresh ++ drop 4096 xs) f.rows ∙ copied_whole (one m) (two m) old fresh few short; count = s.count; worth_is = s.worth_is }
    by false = f
