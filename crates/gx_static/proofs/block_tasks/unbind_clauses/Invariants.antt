use Rattle.std.proofs.Common.{◌≡◌, ◌++◌, take}
use Rattle.std.specs.Prelude.{flat_map}
use Rattle.gx_static.specs.Typing.{clause_unbinding}
use Rattle.gx_static.proofs.block_tasks.unbind_clauses.Given as goal

-- the tasks of the clauses so far
abbrev pub invariant-loop-kind : goal.invariant-loop-kind
invariant-loop-kind l = l.steps.items ≡ l.fn.steps.items ++ flat_map clause_unbinding (take l.kind-index l.kinds)
