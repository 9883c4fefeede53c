use Rattle.std.proofs.Common.{◌≡◌, ◌++◌, ◌∷◌, [], map, reverse, vec_len}
use Rattle.gx_core.specs.ExpressionView.{kind_of_clause, order_of_key, part_of_clause, part_of_key}
use Rattle.gx_plan.proofs.operands.block_apart.Given as goal

-- the keys that are left and those that were taken, the last first, are all keys
abbrev pub invariant-loop-key : goal.invariant-loop-key
invariant-loop-key g l = record {
  orders : map order_of_key l.keys.items ++ reverse l.orders.items ≡ map order_of_key l.fn.keys.items;
  parts : map part_of_key l.keys.items ++ reverse l.parts.items ≡ map part_of_key l.fn.keys.items ++ l.fn.body.value ∷ [];
}

abbrev pub decreases-loop-key : goal.decreases-loop-key
decreases-loop-key g l = vec_len l.keys

-- the clauses that are left and those that were taken, the last first, are all clauses
abbrev pub invariant-loop-clause : goal.invariant-loop-clause
invariant-loop-clause g l = record {
  orders : reverse l.orders.items ≡ map order_of_key l.fn.keys.items;
  kinds : map kind_of_clause l.clauses.items ++ reverse l.kinds.items ≡ map kind_of_clause l.fn.clauses.items;
  parts : map part_of_clause l.clauses.items ++ reverse l.parts.items
      ≡ map part_of_clause l.fn.clauses.items ++ (map part_of_key l.fn.keys.items ++ l.fn.body.value ∷ []);
}

abbrev pub decreases-loop-clause : goal.decreases-loop-clause
decreases-loop-clause g l = vec_len l.clauses
