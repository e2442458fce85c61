use Rattle.std.proofs.Common.{◌≤◌, ◌∙◌, arith, rules}
use Rattle.std.proofs.lemmas.List.{length-take-le}
use Rattle.layout.specs.Models.{model}
use Rattle.engines.proofs.Finishing.{written_few, finished}
use Rattle.engines.proofs.staging.write_pattern.Goals as goal

pub overflow_cast-result : goal.overflow_cast-result
overflow_cast-result g c =
    let few : c.lay-laid.result.rows ≤ 4096 = omega (arith, written_few (g.S.Staging.pattern (model c.args.task.now)) c.lay-laid.new.rows c.lay-laid.result.rows c.lay-laid.ensures.written, c.lay-laid.auto.rows, length-take-le 4096 c.args.rows.now c.requires.places) in
    search rules

pub returns : goal.returns
returns g c =
    let m = model c.args.task.now in
    finished m (g.S.Staging.pattern m) c.args.rows.now c.lay-laid.new.rows c.blank_from.new.rows c.lay-laid.result.rows c.lay-laid.result.worth (c.lay-laid.auto.rows ∙ length-take-le 4096 c.args.rows.now c.requires.places) c.lay-laid.ensures.written c.blank_from.ensures c.lay-laid.ensures.worth
