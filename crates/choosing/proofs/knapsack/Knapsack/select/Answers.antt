use Rattle.std.proofs.Common.{◌∙◌, sym, ap, subst}
use Rattle.choosing.specs.Choice.{total_worth, First}
use Rattle.choosing.proofs.Choosing.{first_is_first, most_is_total}
use Rattle.choosing.proofs.Offers.{sound}
use Rattle.choosing.proofs.knapsack.Knapsack.select.Goals as goal

pub returns-clause-selected : goal.returns-clause-selected
returns-clause-selected g c =
    let s = g.W.Worth.scale in
    let laws = g.met.W.Worth.laws in
    let k = c.args.self.now in
    let cands = k.candidates.now in
    let written = c.walk-count.ensures in
    let greatest = c.fill-worth.ensures.greatest in
    record {
      short = written.short;
      computed = written.computed;
      is_first = subst (First s cands k.capacity) (sym written.computed) (first_is_first laws cands (sound k.fair) k.capacity);
      total = greatest.computed ∙ most_is_total laws cands (sound k.fair) k.capacity ∙ ap (total_worth s cands) (sym written.computed);
      greatest = greatest;
      beyond = written.beyond;
    }
