use Rattle.std.proofs.Common.{sym, ap, ◌∙◌, subst}
use Rattle.layout.specs.Models.{model}
use Rattle.layout.specs.Tasks.{WithinLimits, given}
use Rattle.layout.proofs.Variants.{stretched_within_limits}
use Rattle.layout.proofs.task.Task.with_kinds_widened.Goals as goal

pub with_kinds-requires : goal.with_kinds-requires
with_kinds-requires c =
    let same = stretched_within_limits c.args.by (model c.args.self.now).kinds c.requires.sides in
    subst WithinLimits (sym (ap (given c.args.length c.args.width) same)) c.requires

pub returns : goal.returns
returns c =
    let same = stretched_within_limits c.args.by (model c.args.self.now).kinds c.requires.sides in
    c.with_kinds.ensures ∙ ap (given c.args.length c.args.width) same
