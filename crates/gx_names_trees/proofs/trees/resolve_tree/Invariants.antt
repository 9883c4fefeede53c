use Rattle.std.proofs.Common.{◌≡◌, [], ◌∷◌}
use Rattle.gx_names_trees.specs.TreeRefusals.{tree_refusals}
use Rattle.gx_names_trees.specs.TreeResolution.{tree_resolved}
use Rattle.gx_names_trees.specs.Resolving.{refusals_of_rest, trees_of_rest}
use Rattle.gx_names_trees.proofs.trees.resolve_tree.Given as goal

-- what is left comes to the refusals and to the tree of the whole
abbrev pub invariant-loop : goal.invariant-loop
invariant-loop l = record {
  refusals : refusals_of_rest l.resolving ≡ tree_refusals l.fn.names l.fn.tree;
  trees : trees_of_rest l.resolving ≡ (tree_resolved l.fn.names l.fn.tree ∷ [], l.fn.names);
}
