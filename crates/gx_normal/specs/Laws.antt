-- What the Core of every query keeps to.
use Rattle.gx_resolved.specs.declared.tree.Resolved.{Resolved}
use Rattle.gx_core.specs.Invariant.{HasQueryVariablesInOrder, IsWellFormedQuery}
use Rattle.gx_normal.specs.Normalisation.{query_core}

-- each variable stands in the scope of its binder, and no number is bound twice
abbrev pub CoresHaveVariablesInOrder : Type 0
CoresHaveVariablesInOrder = (query : Resolved) → HasQueryVariablesInOrder (query_core query)

-- literals, calls and switches are well formed
abbrev pub CoresAreWellFormed : Type 0
CoresAreWellFormed = (query : Resolved) → IsWellFormedQuery (query_core query)
