-- The laws of the Core of queries, as terms.
use Rattle.std.proofs.Common.{false}
use Rattle.gx_resolved.specs.declared.tree.Resolved.{Resolved}
use Rattle.gx_core.specs.Invariant.{CallsDeclaredFunctions}
use Rattle.gx_core.proofs.DeclaredCalls.{well_formed_queries_call_declared_functions}
use Rattle.gx_normal.specs.Clauses.{is_empty_greatest}
use Rattle.gx_normal.specs.Laws.{CoresHaveVariablesInOrder, CoresAreWellFormed}
use Rattle.gx_normal.specs.Normalisation.{query_core}
use Rattle.gx_normal.specs.Signatures.{signatures_of}
use Rattle.gx_normal.proofs.NumberedVariables.{query_in_order}
use Rattle.gx_normal.proofs.WellFormedCores.{query_formed}

pub cores_have_variables_in_order : CoresHaveVariablesInOrder
cores_have_variables_in_order query =
    query_in_order (signatures_of query.declarations) (is_empty_greatest false query.settings.empty_order) query.settings.preserves_boundary_space query.declarations query.body

pub cores_are_well_formed : CoresAreWellFormed
cores_are_well_formed query = query_formed (is_empty_greatest false query.settings.empty_order) query.settings.preserves_boundary_space query.declarations query.body

pub cores_call_declared_functions : (query : Resolved) → CallsDeclaredFunctions (query_core query)
cores_call_declared_functions query = well_formed_queries_call_declared_functions (query_core query) (cores_are_well_formed query)
