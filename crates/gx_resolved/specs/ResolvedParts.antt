-- Each part of a tree is smaller than it.
use Rattle.std.specs.Prelude.{◌+◌, ◌≤◌, max, List, [], ◌∷◌}
use Rattle.std.proofs.Common.{arith}
use denote.Param.Weighed.{most}
use Rattle.gx_resolved.specs.ResolvedTree.{ResolvedTree, resolved_size, all_resolved_size}
use Rattle.gx_resolved.specs.ResolvedView.{resolved_parts}

most_resolved : (trees : List ResolvedTree) → most (λ t. resolved_size t + 1) trees ≤ 1 + all_resolved_size (resolved_parts trees)
most_resolved [] = omega arith
most_resolved (t ∷ ts) = omega (arith, most_resolved ts)

pub resolved_parts_are_smaller : (trees : List ResolvedTree) → max (most (λ t. resolved_size t + 1) trees) 0 ≤ 1 + all_resolved_size (resolved_parts trees)
resolved_parts_are_smaller trees = omega (arith, most_resolved trees)
