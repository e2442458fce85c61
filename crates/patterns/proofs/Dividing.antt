-- The dividing position has the greatest sum, and is the lowest such.
use Rattle.std.proofs.Common.{◌≡◌, ℕ, zero, suc, ◌≤◌, Bool, true, false, cond, sym, refl, subst, ⊎_elim, arith}
use Rattle.std.proofs.lemmas.Bool.{cases_eq}
use Rattle.layout.specs.Tasks.{Model}
use Rattle.choosing.specs.Worth.{Laws}
use Rattle.choosing.proofs.Orders.{one_way, not_below, up_to}
use Rattle.patterns.specs.Strips.{Pricing}
use Rattle.patterns.specs.Named.{divided, division}
use Rattle.patterns.specs.Dividing.{LowestBest}

pub lowest_best : {W : Type 0} (p : Pricing W) → Laws p.scale → (m : Model) (n : ℕ) → LowestBest p m n (division p m n)
lowest_best p laws m zero =
    record {
      reached = omega arith;
      is = refl;
      greatest = λ c h. subst (λ k. p.scale.less (divided p m 0).worth (divided p m k).worth ≡ false) (let z : 0 ≡ c = omega arith in z) (laws.never (divided p m 0).worth);
      lowest = λ c h. absurd (omega arith);
    }
lowest_best {W} p laws m (suc n) = by (lowest_best p laws m n) (p.scale.less (division p m n).worth (divided p m (suc n)).worth) refl
  where
    by : LowestBest p m n (division p m n) → (b : Bool) → p.scale.less (division p m n).worth (divided p m (suc n)).worth ≡ b → LowestBest p m (suc n) (cond b (divided p m (suc n)) (division p m n))
    by l true e =
        record {
          reached = omega arith;
          is = refl;
          greatest = λ c h.
              ⊎_elim (λ q. subst (λ k. p.scale.less (divided p m (suc n)).worth (divided p m k).worth ≡ false) (sym q) (laws.never (divided p m (suc n)).worth))
              (λ ne. let lower : c ≤ n = omega arith in not_below laws (divided p m c).worth (division p m n).worth (divided p m (suc n)).worth (l.greatest c lower) (one_way laws (division p m n).worth (divided p m (suc n)).worth e))
              (cases_eq c (suc n));
          lowest = λ c h. beaten c (l.greatest c (omega arith));
        }
      where
        -- no better than what is passed by
        beaten : (c : ℕ) → p.scale.less (division p m n).worth (divided p m c).worth ≡ false → p.scale.less (divided p m c).worth (divided p m (suc n)).worth ≡ true
        beaten c g = up_to laws (divided p m c).worth (division p m n).worth (divided p m (suc n)).worth g e
    by l false e =
        record {
          reached = omega (arith, l.reached);
          is = l.is;
          greatest = λ c h.
              ⊎_elim (λ q. subst (λ k. p.scale.less (division p m n).worth (divided p m k).worth ≡ false) (sym q) e) (λ ne. let lower : c ≤ n = omega arith in l.greatest c lower) (cases_eq c (suc n));
          lowest = l.lowest;
        }
