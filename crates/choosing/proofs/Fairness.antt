-- Candidates that are each fair are fair, and the other way round.
use Rattle.std.proofs.Common.{◌≡◌, ℕ, true, List, All, sym, subst, arith}
use Rattle.choosing.specs.Worth.{Scale}
use Rattle.choosing.specs.Choice.{size_at, worth_at}
use Rattle.choosing.specs.Limits.{FairOne, Fair}
use Rattle.choosing.specs.declared.Candidate.{Candidate}
use Rattle.choosing.proofs.Filling.{size_read, worth_read}

module _ {W : Type 0} (s : Scale W) (within : ℕ → W → Type 0) (cands : List (Candidate W)) where
  -- the candidate at k
  at : ℕ → Candidate W
  at k = record { size = size_at cands k; worth = worth_at s cands k }

  pub fair_all : All (FairOne s within 64) cands → Fair s within 64 cands
  fair_all each = record {
    room = λ k h. omega (arith, size_read cands k (at k) h, (each k (at k) h).room);
    value = λ k h. subst (λ w. s.less s.nothing w ≡ true) (worth_read s cands k (at k) h) (each k (at k) h).value;
    few = λ k h. subst (within 64) (worth_read s cands k (at k) h) (each k (at k) h).few;
  }

  pub all_fair : Fair s within 64 cands → All (FairOne s within 64) cands
  all_fair fair k d h = record {
    room = omega (arith, size_read cands k d h, fair.room k h);
    value = subst (λ w. s.less s.nothing w ≡ true) (sym (worth_read s cands k d h)) (fair.value k h);
    few = subst (within 64) (sym (worth_read s cands k d h)) (fair.few k h);
  }
