use Rattle.std.proofs.Common.{◌≡◌, IfOk, subst}
use Rattle.gx_normal.specs.declared.focus.Focus.{Focus}
use Rattle.gx_normal.specs.Signatures.{signatures_of}
use Rattle.gx_normal.specs.Normalisation.{main_core}
use Rattle.gx_normal.proofs.NumberedVariables.{made_in_order}
use Rattle.gx_normal.proofs.WellFormedCores.{made_well_formed, made_calls}
use Rattle.gx_normal.proofs.normalise.normalise.Goals as goal

pub returns-clause-variables : goal.returns-clause-variables
returns-clause-variables c =
    let made = c.core_of_query-core.result in
    let ds = c.as_slice.result.now in
    made_in_order (signatures_of ds) c.is_empty_greatest-greatest.result c.args.query.settings.preserves_boundary_space ds c.args.query.body made
    (subst (λ (focus : Focus). IfOk made (λ core. core ≡ main_core (signatures_of ds) focus ds c.args.query.body)) c.without_context-focus.ensures c.core_of_query-core.ensures)

pub returns-clause-well_formed : goal.returns-clause-well_formed
returns-clause-well_formed c =
    let made = c.core_of_query-core.result in
    let ds = c.as_slice.result.now in
    made_well_formed c.is_empty_greatest-greatest.result c.args.query.settings.preserves_boundary_space ds c.args.query.body made
    (subst (λ (focus : Focus). IfOk made (λ core. core ≡ main_core (signatures_of ds) focus ds c.args.query.body)) c.without_context-focus.ensures c.core_of_query-core.ensures)

pub returns-clause-calls : goal.returns-clause-calls
returns-clause-calls c =
    let made = c.core_of_query-core.result in
    let ds = c.as_slice.result.now in
    made_calls c.is_empty_greatest-greatest.result c.args.query.settings.preserves_boundary_space ds c.args.query.body made
    (subst (λ (focus : Focus). IfOk made (λ core. core ≡ main_core (signatures_of ds) focus ds c.args.query.body)) c.without_context-focus.ensures c.core_of_query-core.ensures)
