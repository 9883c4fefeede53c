use Rattle.std.proofs.Common.{◌≡◌}
use Rattle.gx_names_uses.specs.Uses.{tree_uses}
use Rattle.gx_names_uses.specs.Using.{uses_of_rest, scope_of_rest}
use Rattle.gx_names_uses.proofs.uses.tree_uses.Given as goal

-- what is used before and what is left come to the uses of the whole
abbrev pub invariant-loop : goal.invariant-loop
invariant-loop l = record {
  uses : uses_of_rest l.using ≡ tree_uses l.fn.names l.fn.tree;
  names : scope_of_rest l.using ≡ l.fn.names;
}
