use Rattle.std.proofs.Common.{◌≡◌, [], List, inr, ap, sym, ◌∙◌, subst}
use Rattle.std.specs.Prelude.{IfOk, IfErr}
use Rattle.std.proofs.lemmas.Result.{err_from_is_err_and}
use Rattle.gx_model.specs.Forest.{Forest, PlainNode}
use Rattle.gx_model.specs.Item.{Items}
use Rattle.gx_core.specs.Functions.{functions_of}
use Rattle.gx_joins.specs.JoinedMeaning.{joined_context, joined_meaning as joined, joined_globals, joined_outcome}
use Rattle.gx_core.specs.Meaning.{Bindings}
use Rattle.gx_core.specs.Outcome.{Outcome, gives, after}
use Rattle.gx_plan.specs.Plan.{FunctionOfPlan, DeclarationOfPlan}
use Rattle.gx_store.specs.Items.{items_in}
use Rattle.gx_store.specs.Places.{node_places}
use Rattle.gx_machine.specs.Failing.{FailsSo}
use Rattle.gx_machine.specs.Frames.{functions_in}
use Rattle.gx_machine.specs.Resume.{items_of}
use Rattle.gx_machine.proofs.MadeTrees.{grows_on, through}
use Rattle.gx_machine.proofs.Resuming.{fails_also}
use Rattle.gx_machine.proofs.declarations.query_value.Goals as goal

pub returns-in_err-globals-clause-failed : goal.returns-in_err-globals-clause-failed
returns-in_err-globals-clause-failed g c = λ later x.
    let s = c.args.schemas.now in
    let store = c.args.store.now in
    let core = c.args.core.now in
    let limit = c.args.limit in
    let documents : List PlainNode = node_places later c.args.documents.now in
    let functions : List FunctionOfPlan = functions_in c.as_slice-functions.result.now in
    let found : functions ≡ functions_of core.declarations = ap functions_in c.as_slice-functions.ensures.value ∙ c.in_ok-functions.ensures ∙ ap functions_of c.as_slice-declarations.ensures in
    let next : Bindings → Forest → Outcome Items = λ bindings left. joined (joined_context s functions bindings limit) core.body bindings left in
    let whole : joined_outcome limit s core documents store ≡ after (joined_globals s functions limit c.as_slice-declarations.result.now documents [] store) next =
    ap (λ (fs : List FunctionOfPlan). after (joined_globals s fs limit core.declarations documents [] store) (λ bindings left. joined (joined_context s fs bindings limit) core.body bindings left)) (sym found)
    ∙ ap (λ (ds : List DeclarationOfPlan). after (joined_globals s functions limit ds documents [] store) next) (sym c.as_slice-declarations.ensures) in
    let p = err_from_is_err_and c.from_residual-in_err-globals.result c.from_residual-in_err-globals.ensures.1 in
    rw (p.1, p.2) (fails_also _ _ _ whole (c.in_err-globals.ensures.failed later next x))

pub returns-clause-grows : goal.returns-clause-grows
returns-clause-grows g c =
    grows_on c.args.schemas.now c.args.store.now c.bound_globals.new.store c.value_of.new.store c.in_ok-globals.ensures.grows (inr c.value_of.ensures.grows)

pub returns-clause-value : goal.returns-clause-value
returns-clause-value g c = λ later x.
    let s = c.args.schemas.now in
    let store = c.args.store.now in
    let core = c.args.core.now in
    let limit = c.args.limit in
    let documents : List PlainNode = node_places later c.args.documents.now in
    let functions : List FunctionOfPlan = functions_in c.as_slice-functions.result.now in
    let found : functions ≡ functions_of core.declarations = ap functions_in c.as_slice-functions.ensures.value ∙ c.in_ok-functions.ensures ∙ ap functions_of c.as_slice-declarations.ensures in
    let next : Bindings → Forest → Outcome Items = λ bindings left. joined (joined_context s functions bindings limit) core.body bindings left in
    let whole : joined_outcome limit s core documents store ≡ after (joined_globals s functions limit c.as_slice-declarations.result.now documents [] store) next =
    ap (λ (fs : List FunctionOfPlan). after (joined_globals s fs limit core.declarations documents [] store) (λ bindings left. joined (joined_context s fs bindings limit) core.body bindings left)) (sym found)
    ∙ ap (λ (ds : List DeclarationOfPlan). after (joined_globals s functions limit ds documents [] store) next) (sym c.as_slice-declarations.ensures) in
    let y = through c.bound_globals.new.store c.value_of.new.store later c.value_of.ensures.grows.extends x in
    let outcome : joined_outcome limit s core documents store ≡ next (items_of later c.in_ok-globals.globals) c.bound_globals.new.store =
    whole ∙ ap (λ (o : Outcome Bindings). after o next) (c.in_ok-globals.ensures.value later y) in
    subst (λ (o : Outcome Items). IfOk c.value_of.result (λ v. o ≡ gives (items_in later v.items) c.value_of.new.store)) (sym outcome) (c.value_of.ensures.value later x)

pub returns-clause-failed : goal.returns-clause-failed
returns-clause-failed g c = λ later x.
    let s = c.args.schemas.now in
    let store = c.args.store.now in
    let core = c.args.core.now in
    let limit = c.args.limit in
    let documents : List PlainNode = node_places later c.args.documents.now in
    let functions : List FunctionOfPlan = functions_in c.as_slice-functions.result.now in
    let found : functions ≡ functions_of core.declarations = ap functions_in c.as_slice-functions.ensures.value ∙ c.in_ok-functions.ensures ∙ ap functions_of c.as_slice-declarations.ensures in
    let next : Bindings → Forest → Outcome Items = λ bindings left. joined (joined_context s functions bindings limit) core.body bindings left in
    let whole : joined_outcome limit s core documents store ≡ after (joined_globals s functions limit c.as_slice-declarations.result.now documents [] store) next =
    ap (λ (fs : List FunctionOfPlan). after (joined_globals s fs limit core.declarations documents [] store) (λ bindings left. joined (joined_context s fs bindings limit) core.body bindings left)) (sym found)
    ∙ ap (λ (ds : List DeclarationOfPlan). after (joined_globals s functions limit ds documents [] store) next) (sym c.as_slice-declarations.ensures) in
    let y = through c.bound_globals.new.store c.value_of.new.store later c.value_of.ensures.grows.extends x in
    let outcome : joined_outcome limit s core documents store ≡ next (items_of later c.in_ok-globals.globals) c.bound_globals.new.store =
    whole ∙ ap (λ (o : Outcome Bindings). after o next) (c.in_ok-globals.ensures.value later y) in
    subst (λ (o : Outcome Items). IfErr c.value_of.result (λ e. FailsSo e o)) (sym outcome) (c.value_of.ensures.failed later x)
