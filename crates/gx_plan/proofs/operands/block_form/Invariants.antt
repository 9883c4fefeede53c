use Rattle.std.proofs.Common.{◌≡◌, ◌+◌, ◌++◌, ◌∷◌, [], length, map, reverse, vec_len}
use Rattle.gx_core.specs.ExpressionView.{kind_of_clause, order_of_key, part_of_clause, part_of_key}
use Rattle.gx_plan.proofs.operands.block_form.Given as goal

-- the orders that are left and those of the keys that are there are all orders, and so are their parts
abbrev pub invariant-loop-order : goal.invariant-loop-order
invariant-loop-order g l = record {
  orders : l.orders.items ++ map order_of_key (reverse l.keys.items) ≡ l.fn.orders.items;
  parts : l.parts.items ++ (map part_of_key (reverse l.keys.items) ++ l.body.value ∷ []) ≡ l.fn.parts.items;
  count : length l.parts.items ≡ length l.kinds.items + length l.orders.items;
  kinds : l.kinds.items ≡ l.fn.kinds.items;
}

abbrev pub decreases-loop-order : goal.decreases-loop-order
decreases-loop-order g l = vec_len l.orders

-- the clauses that are left and those that are there are all clauses, and so are their parts
abbrev pub invariant-loop-kind : goal.invariant-loop-kind
invariant-loop-kind g l = record {
  kinds : l.kinds.items ++ map kind_of_clause (reverse l.clauses.items) ≡ l.fn.kinds.items;
  parts : l.parts.items ++ (map part_of_clause (reverse l.clauses.items) ++ (map part_of_key l.keys.items ++ l.body.value ∷ [])) ≡ l.fn.parts.items;
  count : length l.parts.items ≡ length l.kinds.items;
  orders : map order_of_key l.keys.items ≡ l.fn.orders.items;
}

abbrev pub decreases-loop-kind : goal.decreases-loop-kind
decreases-loop-kind g l = vec_len l.kinds
