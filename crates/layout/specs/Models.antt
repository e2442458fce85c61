-- A Task as a model.
use Rattle.layout.specs.declared.task.Task.{Task}
use Rattle.layout.specs.Tables.{listed}
use Rattle.layout.specs.Tasks.{Model, given}

-- the plate of a task and its kinds
abbrev pub model : Task → Model
model t = given t.length t.width (listed t.kinds)
