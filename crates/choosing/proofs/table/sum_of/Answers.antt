use Rattle.std.proofs.Math.Logic.{∥∥₁_elim}
use base.Stored.{Coded-set}
use Rattle.choosing.proofs.table.sum_of.Goals as goal

pub returns : goal.returns
returns g c = ∥∥₁_elim c.requires (Coded-set g.row.W.coded c.plus.result (g.W.Worth.scale.plus c.args.one c.args.other)) c.plus.ensures
