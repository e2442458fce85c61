-- The greatest worth depends only on which candidates there are, not on their order or repetition.
use Rattle.std.proofs.Common.{◌≡◌, ℕ, ◌<◌, true, false, List, [], ◌∷◌, length, sym, refl, ap, ◌∙◌, subst, arith}
use Rattle.choosing.specs.Worth.{Scale, Laws}
use Rattle.choosing.specs.Choice.{size_at, worth_at, total_size, total_worth, Known, first, most}
use Rattle.choosing.specs.declared.Candidate.{Candidate}
use Rattle.choosing.proofs.Choosing.{Sound, right_best}

-- the candidate at i of A stands in B
pub record Stands {W : Type 0} (s : Scale W) (A B : List (Candidate W)) (i : ℕ) : Type 0 where
  pub place : ℕ
  pub known : place < length B
  pub size_is : size_at A i ≡ size_at B place
  pub worth_is : worth_at s A i ≡ worth_at s B place

-- each candidate of A stands in B
abbrev pub Among : {W : Type 0} → Scale W → List (Candidate W) → List (Candidate W) → Type 0
Among s A B = (i : ℕ) → i < length A → Stands s A B i

-- a sequence of A as one of B
record Carried {W : Type 0} (s : Scale W) (A B : List (Candidate W)) (ks : List ℕ) : Type 0 where
  places : List ℕ
  known : Known B places
  sizes : total_size A ks ≡ total_size B places
  worths : total_worth s A ks ≡ total_worth s B places

module _ {W : Type 0} {s : Scale W} (A B : List (Candidate W)) (among : Among s A B) where
  carried : (ks : List ℕ) → Known A ks → Carried s A B ks
  carried [] known = record { places = []; known = tt; sizes = refl; worths = refl }
  carried (k ∷ ks) known =
      let here = among k known.0 in
      let later = carried ks known.1 in
      record {
        places = here.place ∷ later.places;
        known = (here.known, later.known);
        sizes = omega (arith, here.size_is, later.sizes);
        worths = ap (λ w. s.plus w (total_worth s A ks)) here.worth_is ∙ ap (s.plus (worth_at s B here.place)) later.worths;
      }

  -- candidates among sound ones are sound
  pub sound_among : Sound s B → Sound s A
  sound_among sound = record {
    room = λ k h. let here = among k h in omega (arith, here.size_is, sound.room here.place here.known);
    value = λ k h. let here = among k h in subst (λ w. s.less s.nothing w ≡ true) (sym here.worth_is) (sound.value here.place here.known);
  }

  -- more candidates are worth no less
  pub most_among : Laws s → Sound s B → (cap : ℕ) → s.less (most s B cap) (most s A cap) ≡ false
  most_among laws sound cap =
      let r = right_best laws A (sound_among sound) cap cap (omega arith) in
      let there = carried (first s A cap).order r.feasible.known in
      subst (λ w. s.less (most s B cap) w ≡ false) (sym there.worths ∙ sym r.worth_is)
      ((right_best laws B sound cap cap (omega arith)).greatest there.places (record { known = there.known; within = omega (arith, there.sizes, r.feasible.within) }))

-- the same candidates, in whatever order and however often, have the same greatest worth
pub most_alike : {W : Type 0} {s : Scale W} (laws : Laws s) (A B : List (Candidate W)) → Sound s A → Among s A B → Among s B A → (cap : ℕ) → most s A cap ≡ most s B cap
most_alike {W} {s} laws A B sound to back cap =
    laws.total (most s A cap) (most s B cap) (most_among B A back laws sound cap) (most_among A B to laws (sound_among B A back sound) cap)
