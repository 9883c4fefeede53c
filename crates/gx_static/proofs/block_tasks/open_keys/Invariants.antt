use Rattle.std.proofs.Common.{◌≡◌, ◌++◌, map}
use Rattle.gx_core.specs.ExpressionView.{order_of_key, part_of_key}
use Rattle.gx_static.specs.declared.typing.Task.TheVariants.{Infer}
use Rattle.gx_static.proofs.block_tasks.open_keys.Given as goal

-- what is there and what is left come to the tasks of all keys, and to all orders
abbrev pub invariant-loop-key : goal.invariant-loop-key
invariant-loop-key l = record {
  steps : l.steps.items ++ map (λ key. Infer (part_of_key key)) l.key-iterator.rest.items ≡ l.fn.steps.items ++ map (λ key. Infer (part_of_key key)) l.fn.keys.items;
  orders : l.orders.items ++ map order_of_key l.key-iterator.rest.items ≡ map order_of_key l.fn.keys.items;
}
