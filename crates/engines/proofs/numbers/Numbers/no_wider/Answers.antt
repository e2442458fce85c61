use Rattle.std.proofs.Common.{ap, ◌∙◌, filter}
use Rattle.patterns.specs.Numbers.{inside}
use Rattle.engines.proofs.Holding.{narrow_is}
use Rattle.engines.proofs.numbers.Numbers.no_wider.Goals as goal

pub returns : goal.returns
returns c =
    let s = c.args.self.now in
    c.fitting.ensures ∙ ap (filter (inside s.length c.args.across)) c.deref.ensures.0 ∙ narrow_is s.length s.width s.list.items s.stock c.args.across
