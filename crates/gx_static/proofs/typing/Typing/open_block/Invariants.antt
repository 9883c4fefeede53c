use Rattle.std.proofs.Common.{◌≡◌, ◌++◌, ◌∷◌, map, vec_len}
use Rattle.std.specs.Prelude.{flat_map}
use Rattle.gx_core.specs.ExpressionView.{kind_of_clause, order_of_key}
use Rattle.gx_core.specs.declared.operator.Operator.TheVariants.{Block}
use Rattle.gx_static.specs.declared.typing.Task.TheVariants.{Finish}
use Rattle.gx_static.specs.Typing.{block_tasks, clause_unbinding}
use Rattle.gx_static.proofs.typing.Typing.open_block.Given as goal

-- the steps that are left lie over what is put down
abbrev pub invariant-loop-step : goal.invariant-loop-step
invariant-loop-step l = record {
  same : l.steps.items ++ l.self.tasks
      ≡ block_tasks l.fn.clauses.items l.fn.keys.items l.fn.body.value ++ (flat_map clause_unbinding (map kind_of_clause l.fn.clauses.items)
      ++ Finish l.fn.place l.fn.outer (Block (map kind_of_clause l.fn.clauses.items) (map order_of_key l.fn.keys.items)) ∷ l.fn.self.tasks);
  same_parts : l.self.parts ≡ l.fn.self.parts;
  same_scope : l.self.scope ≡ l.fn.self.scope;
  same_declared : l.self.declared.items ≡ l.fn.self.declared.items;
}

abbrev pub decreases-loop-step : goal.decreases-loop-step
decreases-loop-step l = vec_len l.steps
