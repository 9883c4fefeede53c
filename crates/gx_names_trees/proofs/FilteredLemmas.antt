-- A tree of an operand and what follows it.
use Rattle.std.proofs.Common.{◌≡◌, List, ◌∷◌}
use Rattle.gx_base.specs.declared.place.Place.{Place}
use Rattle.gx_resolved.specs.declared.tree.Construct.{Construct}
use Rattle.gx_resolved.specs.ResolvedTree.{ResolvedTree, ResolvedTrees, resolved_at, a_resolved, one_resolved}
use Rattle.gx_names_trees.specs.Resolving.{adopted, all_adopted, closed}
use Rattle.gx_names_trees.proofs.ResolvingLemmas.{all_closed}

pub predicates_closed : (predicates : ResolvedTrees) (operand : ResolvedTree) (place : Place) (construct : Construct) (outer : List ResolvedTree)
    → closed (all_adopted predicates (resolved_at place construct (one_resolved operand) ∷ outer)) ≡ adopted (resolved_at place construct (a_resolved operand predicates)) outer
predicates_closed predicates operand place construct outer = all_closed (a_resolved operand predicates) place construct outer
