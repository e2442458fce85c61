use Rattle.std.proofs.Common.{◌≡◌, ◌++◌, map, take, drop}
use Rattle.layout.proofs.change.change_all.Given as goal

-- the elements so far are changed, and the others are not
abbrev pub invariant-loop-x : goal.invariant-loop-x
invariant-loop-x g l = l.xs ≡ map (g.C.Change.changed l.by) (take l.x-index l.initial.xs) ++ drop l.x-index l.initial.xs
