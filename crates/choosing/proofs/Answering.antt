-- The greatest worth in the subject's words.
use Rattle.std.proofs.Common.{◌≡◌, ℕ, false, List, sym, ◌∙◌, subst, arith}
use Rattle.choosing.specs.Worth.{Scale, Laws}
use Rattle.choosing.specs.Choice.{total_worth, first, most}
use Rattle.choosing.specs.Calls.{GreatestWorth}
use Rattle.choosing.specs.declared.Candidate.{Candidate}
use Rattle.choosing.proofs.Admitting.{admitted, all_admitted}
use Rattle.choosing.proofs.Choosing.{Sound, right_best}
use Rattle.choosing.proofs.Unique.{recursion}

pub greatest_worth_lem : {W : Type 0} {s : Scale W} (laws : Laws s) (cands : List (Candidate W)) (sound : Sound s cands) (cap : ℕ) (w : W) → w ≡ most s cands cap → GreatestWorth s cands cap w
greatest_worth_lem {W} {s} laws cands sound cap w is =
    let r = right_best laws cands sound cap cap (omega arith) in
    record {
      computed = is;
      none_more = λ ks f. subst (λ v. s.less v (total_worth s cands ks) ≡ false) (sym is) (r.greatest ks f);
      reached = ((first s cands cap).order, r.feasible, sym r.worth_is ∙ sym is);
      by_capacity = λ F keeps. recursion laws cands sound F keeps cap ∙ sym is;
      by_candidate = λ commutes f keeps. all_admitted laws commutes cands sound f keeps cap ∙ sym is;
      by_front = λ commutes f keeps k x h. admitted laws commutes cands sound f keeps k h x;
    }
