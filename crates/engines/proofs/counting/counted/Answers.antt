use Rattle.std.proofs.Common.{arith}
use Rattle.layout.specs.Limits.{no_kind}
use Rattle.patterns.specs.Numbers.{numbers_from}
use Rattle.engines.proofs.KindByKind.{kind_more, kind_last}
use Rattle.engines.proofs.counting.counted.Goals as goal

pub loop-i-preserved : goal.loop-i-preserved
loop-i-preserved c =
    record {
      few = omega arith;
      all = kind_more c.args.length c.args.width c.loop-i.i c.args.kinds.now no_kind c.loop-i.numbers.items c.push_turn.new.numbers.items c.push_turn-in-loop-i.new.numbers.items (numbers_from c.args.length c.args.width 0 c.args.kinds.now) c.loop-i-test.true c.push_turn.ensures.put c.push_turn-in-loop-i.ensures.put c.loop-i.invariant.all;
    }

pub returns-clause-counted : goal.returns-clause-counted
returns-clause-counted c = kind_last c.args.length c.args.width c.loop-i.i c.args.kinds.now c.loop-i.numbers.items (numbers_from c.args.length c.args.width 0 c.args.kinds.now) c.loop-i-test.false c.loop-i.invariant.all
