-- The value of a plan belongs to the type that it carries.
use Rattle.std.proofs.Common.{◌≡◌, List, refl, sym, ◌∙◌, subst, Result, Ok, Err, IfOk}
use Rattle.gx_base.specs.declared.limits.TheConstants.{ACTIVE_CALLS}
use Rattle.gx_types.specs.SchemaSet.{SchemaSet}
use Rattle.gx_types.specs.SequenceType.{SequenceType}
use Rattle.gx_model.specs.Belongs.{Belongs}
use Rattle.gx_model.specs.Forest.{PlainNode, Forest}
use Rattle.gx_model.specs.Honest.{IsHonest}
use Rattle.gx_model.specs.Item.{Items}
use Rattle.gx_core.specs.Expression.{At, annotation_of}
use Rattle.gx_core.specs.Outcome.{Outcome, gives}
use Rattle.gx_core.specs.QueryMeaning.{plain_query, outcome_within, DocumentsFit, IsSoundQuery, QueryMeaningLooksAtNoType, SoundQueriesKeepTheirTypes}
use Rattle.gx_core.specs.Soundness.{typed_setting, Keeps}
use Rattle.gx_plan.specs.Plan.{PlanExpression, PlanQuery, kind_carried, typed_expression, typed_query}
use Rattle.gx_plan.specs.PlanMeaning.{plan_outcome, PlansHaveTheOutcomeOfTheirTypedCore}

-- what holds of a value
pub of_value : {T E : Type 0} (result : Result T E) (P Q : T → Type 0) → ((v : T) → P v → Q v) → IfOk result P → IfOk result Q
of_value (Ok v) P Q next h = next v h
of_value (Err e) P Q next h = tt

-- a typed expression has the type that it carries in a plan
type_is_carried : (e : PlanExpression) → annotation_of (typed_expression e) ≡ kind_carried e
type_is_carried (At place outer carried operator parts) = refl

pub value_belongs : QueryMeaningLooksAtNoType → PlansHaveTheOutcomeOfTheirTypedCore → SoundQueriesKeepTheirTypes
    → (s : SchemaSet) (query : PlanQuery) (documents : List PlainNode) (forest now : Forest) (items : Items)
    → IsHonest s forest → DocumentsFit s forest (plain_query (typed_query query)).declarations documents → IsSoundQuery s (typed_query query)
    → plan_outcome s query documents forest ≡ gives items now → Belongs s now items (kind_carried query.body)
value_belongs looks typed keeps s query documents forest now items honest fits sound e =
    (subst (λ (o : Outcome Items). Keeps (typed_setting s) forest (kind_carried query.body) o)
    (looks ACTIVE_CALLS s (typed_query query) documents forest ∙ sym (typed ACTIVE_CALLS s query documents forest) ∙ e)
    (subst (λ (t : SequenceType). Keeps (typed_setting s) forest t (outcome_within ACTIVE_CALLS s (plain_query (typed_query query)) documents forest)) (type_is_carried query.body)
    (keeps ACTIVE_CALLS s (typed_query query) documents forest honest fits sound))).fact
