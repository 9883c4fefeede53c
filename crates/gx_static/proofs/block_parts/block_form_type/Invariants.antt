use Rattle.std.proofs.Common.{◌≡◌, ◌++◌, map, take}
use Rattle.gx_core.specs.Expression.{annotation_of}
use Rattle.gx_core.specs.ExpressionView.{kind_of_clause, order_of_key, part_of_clause, part_of_key}
use Rattle.gx_static.proofs.block_parts.block_form_type.Given as goal

-- the clauses so far without their parts, and the types of these
abbrev pub invariant-loop-clause : goal.invariant-loop-clause
invariant-loop-clause l = record {
  kinds : l.kinds.items ≡ map kind_of_clause (take l.clause-index l.clauses);
  types : l.types.items ≡ map annotation_of (map part_of_clause (take l.clause-index l.clauses));
}

-- the orders of the keys so far, and the types of the keys behind those of the clauses
abbrev pub invariant-loop-key : goal.invariant-loop-key
invariant-loop-key l = record {
  kinds : l.kinds.items ≡ map kind_of_clause l.clauses;
  orders : l.orders.items ≡ map order_of_key (take l.key-index l.keys);
  types : l.types.items ≡ map annotation_of (map part_of_clause l.clauses) ++ map annotation_of (map part_of_key (take l.key-index l.keys));
}
