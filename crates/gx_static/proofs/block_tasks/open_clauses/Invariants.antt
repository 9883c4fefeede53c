use Rattle.std.proofs.Common.{◌≡◌, ◌++◌, map}
use Rattle.std.specs.Prelude.{flat_map}
use Rattle.gx_core.specs.ExpressionView.{kind_of_clause}
use Rattle.gx_static.specs.Typing.{clause_tasks}
use Rattle.gx_static.proofs.block_tasks.open_clauses.Given as goal

-- what is there and what is left come to the tasks of all clauses, and to all clauses without their parts
abbrev pub invariant-loop-clause : goal.invariant-loop-clause
invariant-loop-clause l = record {
  steps : l.steps.items ++ flat_map clause_tasks l.clause-iterator.rest.items ≡ l.fn.steps.items ++ flat_map clause_tasks l.fn.clauses.items;
  kinds : l.kinds.items ++ map kind_of_clause l.clause-iterator.rest.items ≡ map kind_of_clause l.fn.clauses.items;
}
