use Rattle.std.proofs.Common.{ap, ◌∙◌, filter, arith}
use Rattle.patterns.specs.Numbers.{inside}
use Rattle.engines.proofs.Holding.{held_is, held_stock}
use Rattle.engines.proofs.numbers.Numbers.no_longer.Goals as goal

pub invariant_of-result : goal.invariant_of-result
invariant_of-result c =
    let s = c.args.self.now in
    record { stock = rw (c.fitting.ensures, c.deref.ensures.0, held_is s.length s.width s.list.items s.stock c.args.length) (held_stock s.length s.width s.list.items s.stock c.args.length (omega (arith, s.stock.along_most, c.requires))) }

pub returns-clause-list : goal.returns-clause-list
returns-clause-list c =
    let s = c.args.self.now in
    c.fitting.ensures ∙ ap (filter (inside c.args.length s.width)) c.deref.ensures.0 ∙ held_is s.length s.width s.list.items s.stock c.args.length
