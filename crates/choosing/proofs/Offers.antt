-- What candidates offer is a sum of at most 4,096 pieces.
use Rattle.std.proofs.Common.{◌≡◌, ℕ, ◌+◌, ◌-◌, ◌*◌, ◌<◌, ◌≤◌, true, List, [], ◌∷◌, length, get_or, All, sym, ap, ◌∙◌, subst, mul-le-mul_left, mul-suc, arith}
use Rattle.std.proofs.Math.Logic.{∥∥₁_elim, ∥∥₁_map}
use Rattle.std.proofs.Math.Bool.{Bool-set}
use Rattle.std.specs.Coded.{le_prop}
use Rattle.choosing.specs.Worth.{Scale, Laws, Limits}
use Rattle.choosing.specs.Choice.{size_at, worth_at, total_size, total_worth, Known, Feasible, first, most}
use Rattle.choosing.specs.Limits.{Fair, Filled}
use Rattle.choosing.specs.Turns.{sum_with, Offerable}
use Rattle.choosing.specs.declared.Candidate.{Candidate}
use Rattle.choosing.proofs.Choosing.{Sound, right_best}
use Rattle.choosing.proofs.Filling.{size_read, worth_read}

module _ {W : Type 0} {s : Scale W} {within : ℕ → W → Type 0} (limits : Limits s within) (p : ℕ) (cands : List (Candidate W)) (fair : Fair s within p cands) where
  pub fair_sound : Sound s cands
  fair_sound = record { room = λ k h. omega (arith, fair.room k h); value = fair.value }

  few_by_size : (ks : List ℕ) → Known cands ks → 50 * length ks ≤ total_size cands ks
  few_by_size [] known = omega arith
  few_by_size (k ∷ ks) known = omega (arith, few_by_size ks known.1, fair.room k known.0)

  total_within : (ks : List ℕ) → Known cands ks → within (p * length ks) (total_worth s cands ks)
  total_within [] known = limits.more 0 (p * length {A = ℕ} []) s.nothing (omega arith) limits.none
  total_within (k ∷ ks) known =
      limits.more (p + p * length ks) (p * length (k ∷ ks)) (total_worth s cands (k ∷ ks)) (omega (arith, mul-suc p (length ks)))
      (limits.sum p (p * length ks) (worth_at s cands k) (total_worth s cands ks) (fair.few k known.0) (total_within ks known.1))

  -- a sequence within a capacity of 3,200 has at most 64 candidates
  feasible_within : (cap : ℕ) (ks : List ℕ) → cap ≤ 3200 → Feasible cands cap ks → within (p * 64) (total_worth s cands ks)
  feasible_within cap ks small f =
      let few : length ks ≤ 64 = omega (arith, few_by_size ks f.known, f.within) in
      limits.more (p * length ks) (p * 64) (total_worth s cands ks) (mul-le-mul_left p few) (total_within ks f.known)

  pub most_within : Laws s → (cap : ℕ) → cap ≤ 3200 → within (p * 64) (most s cands cap)
  most_within laws cap small =
      let r = right_best laws cands fair_sound cap cap (omega arith) in
      subst (within (p * 64)) (sym r.worth_is) (feasible_within cap (first s cands cap).order small r.feasible)

  pub offer_within : Laws s → p ≤ 64 → (cap k : ℕ) → k < length cands → size_at cands k ≤ cap → cap ≤ 3200 → within 4096 (s.plus (worth_at s cands k) (most s cands (cap - size_at cands k)))
  offer_within laws few cap k known fits small =
      let left : ℕ = cap - size_at cands k in
      let r = right_best laws cands fair_sound left left (omega arith) in
      let ks = (first s cands left).order in
      limits.more (p * 64) 4096 (s.plus (worth_at s cands k) (most s cands left)) (omega arith)
      (subst (λ w. within (p * 64) (s.plus (worth_at s cands k) w)) (sym r.worth_is) (feasible_within cap (k ∷ ks) small (record { known = (known, r.feasible.known); within = omega (arith, r.feasible.within) })))

-- ---- candidates that are known to be fair

module _ {W : Type 0} {s : Scale W} {within : ℕ → W → Type 0} {cands : List (Candidate W)} (fair : ∥ Fair s within 64 cands ∥₁) where
  pub takes_room : (k : ℕ) → k < length cands → 50 ≤ size_at cands k
  takes_room k h = ∥∥₁_elim fair le_prop (λ f. f.room k h)

  pub sound : Sound s cands
  sound = record {
    room = λ k h. omega (arith, takes_room k h);
    value = λ k h. ∥∥₁_elim fair (Bool-set (s.less s.nothing (worth_at s cands k)) true) (λ f. f.value k h);
  }

  -- what each offers at a capacity may be asked of a table that has the greatest worth at each smaller one
  pub each_offerable : Laws s → Limits s within → (table : List W) (cap : ℕ) → Filled s table cands cap → cap ≤ length table → cap ≤ 3200 → All (Offerable s within table cap) cands
  each_offerable laws limits table cap filled long small k d known = record {
    room = λ fits. omega (arith, takes_room k known, size_read cands k d known);
    bounded = λ fits. ∥∥₁_map fair (λ f. subst (within 4096) (same fits) (offer_within limits 64 cands f laws (omega arith) cap k known (omega (arith, size_read cands k d known)) small));
  }
    where
      same : (get_or cands k d).size ≤ cap → s.plus (worth_at s cands k) (most s cands (cap - size_at cands k)) ≡ sum_with s table cap (get_or cands k d)
      same fits =
          sym (ap (λ w. s.plus w (most s cands (cap - size_at cands k))) (worth_read s cands k d known))
          ∙ sym (ap (λ n. s.plus (get_or cands k d).worth (most s cands (cap - n))) (size_read cands k d known))
          ∙ ap (s.plus (get_or cands k d).worth) (sym (filled (cap - (get_or cands k d).size) s.nothing (omega (arith, takes_room k known, size_read cands k d known))))
