-- The parts of a plain tree.
use Rattle.std.specs.Prelude.{List, [], ◌∷◌}
use Rattle.gx_resolved.specs.ResolvedTree.{ResolvedTree, ResolvedTrees, no_resolved, a_resolved}

abbrev pub resolved_parts : List ResolvedTree → ResolvedTrees
resolved_parts [] = no_resolved
resolved_parts (tree ∷ trees) = a_resolved tree (resolved_parts trees)
