use Rattle.std.proofs.Common.{◌≡◌, ◌≢◌, List, sym, subst}
use Rattle.std.specs.Prelude.{IfOk, IfErr, Vec}
use Rattle.std.specs.Global.{Global}
use Rattle.gx_model.specs.Belongs.{Belongs}
use Rattle.gx_model.specs.Item.{Items}
use Rattle.gx_core.specs.Outcome.{Outcome, gives, wrong}
use Rattle.gx_core.specs.Refusal.{Fails}
use Rattle.gx_plan.specs.Plan.{kind_carried}
use Rattle.gx_plan.specs.PlanMeaning.{plan_outcome}
use Rattle.gx_store.specs.declared.item.Item.{Item}
use Rattle.gx_store.specs.Items.{items_in}
use Rattle.gx_store.specs.Places.{node_places}
use Rattle.gx_eval.proofs.PlanValues.{of_value, value_belongs}
use Rattle.gx_eval.proofs.evaluator.evaluate.Goals as goal

pub joined_value-requires-clause-right : goal.joined_value-requires-clause-right
joined_value-requires-clause-right c = subst (λ (o : Outcome Items). o ≢ wrong) (sym c.requires.joins) c.requires.right

pub returns-clause-value : goal.returns-clause-value
returns-clause-value c =
    subst (λ (o : Outcome Items). IfOk c.joined_value.result (λ v. o ≡ gives (items_in c.joined_value.new.store v.items) c.joined_value.new.store)) c.requires.joins c.joined_value.ensures.value

pub returns-clause-raised : goal.returns-clause-raised
returns-clause-raised c = subst (λ (o : Outcome Items). IfErr c.joined_value.result (λ e. Fails e o)) c.requires.joins c.joined_value.ensures.raised

pub returns-clause-belongs : goal.returns-clause-belongs
returns-clause-belongs c = λ honest fits sound.
    let s = c.args.schemas.now in
    let query = c.args.plan.now.query in
    let before = c.args.store.now in
    let now = c.joined_value.new.store in
    let documents = node_places before c.args.documents.now in
    of_value c.joined_value.result (λ (v : Vec Item Global). plan_outcome s query documents before ≡ gives (items_in now v.items) now)
    (λ (v : Vec Item Global). Belongs s now (items_in now v.items) (kind_carried query.body))
    (λ v e. value_belongs c.query_meaning_looks_at_no_type.ensures c.plans_have_the_outcome_of_their_typed_core.ensures c.sound_queries_keep_their_types.ensures
    s query documents before now (items_in now v.items) honest fits sound e)
    (subst (λ (o : Outcome Items). IfOk c.joined_value.result (λ (v : Vec Item Global). o ≡ gives (items_in now v.items) now)) c.requires.joins c.joined_value.ensures.value)
