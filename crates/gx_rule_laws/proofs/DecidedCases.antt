-- A switch that is decided is a `let`.
use Rattle.std.proofs.Common.{◌≡◌, ℕ, Bool, true, List, [], ◌∷◌, ◌++◌, refl, sym, ◌∙◌, ap, if◌then◌else◌}
use Rattle.gx_types.specs.SchemaSet.{SchemaSet}
use Rattle.gx_types.specs.SchemaInvariant.{IsSchemaSet}
use Rattle.gx_types.specs.SequenceType.{SequenceType}
use Rattle.gx_include.specs.Decision.{is_included}
use Rattle.gx_model.specs.Belongs.{Belongs}
use Rattle.gx_model.specs.Forest.{Forest}
use Rattle.gx_model.specs.Honest.{IsHonest}
use Rattle.gx_model.specs.Item.{Items}
use Rattle.gx_core.specs.declared.cases.TypeCase.{TypeCase}
use Rattle.gx_core.specs.declared.operator.Operator.TheVariants as operators
use Rattle.gx_core.specs.Bindings.{position_bound}
use Rattle.gx_core.specs.Expression.{At, no_parts, a_part, each_of, annotation_of}
use Rattle.gx_core.specs.Instances.{is_instance, IsWrittenType}
use Rattle.gx_core.specs.Outcome.{Outcome, gives, raises, wrong, after}
use Rattle.gx_core.specs.Meaning.{Context, Bindings, Denotation, switched, meaning, meanings}
use Rattle.gx_core.specs.Soundness.{Setting, context_of, Keeps}
use Rattle.gx_core.proofs.InstanceLemmas.{instances_are_exact}
use Rattle.gx_static.proofs.HonestValues.{included_belongs}
use Rattle.gx_plan.specs.Plan.{PlanExpression, kind_carried, typed_expression, typed_parts}
use Rattle.gx_rules.specs.Rules.{made_let, plain_binder, Decided}
use Rattle.gx_rule_laws.specs.KeepingRules.{IsRegular, RuleKeeps}
use Rattle.gx_rule_laws.proofs.GuardLemmas.{met}
use Rattle.gx_rule_laws.proofs.Renaming.{none_may_be_bound}
use Rattle.gx_rule_laws.proofs.SoundParts.{kind_of, first_keeps}

-- a value of a type that is included in a type which can be written is an instance of that
pub is_instance_where : (s : SchemaSet) (forest : Forest) (t u : SequenceType) (xs : Items) → IsSchemaSet s → IsWrittenType u → IsHonest s forest
    → is_included s t u ≡ true → Belongs s forest xs t → is_instance s forest u xs ≡ true
is_instance_where s forest t u xs schemas written honest e b =
    let c = included_belongs s forest xs t u schemas.grounded honest e b in
    (instances_are_exact s forest u xs c.seen schemas.grounded written c.shaped).1 c

-- without a case
default_means : (context : Context) (default : ℕ) (branch : PlanExpression) (operand : Outcome Items) (bindings : Bindings) → IsRegular branch
    → after operand (λ xs left. meaning context (typed_expression branch) ((default, xs) ∷ bindings) left)
    ≡ after operand (λ xs left. switched context.schemas [] default (meaning context (typed_expression branch) ∷ []) xs bindings left)
default_means context default branch (gives xs left) bindings h = none_may_be_bound context branch default xs bindings left h
default_means context default branch (raises code) bindings h = refl
default_means context default branch wrong bindings h = refl

-- with a first case that each value is an instance of
case_means : (setting : Setting) (case : TypeCase) (cases : List TypeCase) (default : ℕ) (branch : PlanExpression) (branches : List Denotation) (t : SequenceType)
    (before : Forest) (operand : Outcome Items) (bindings : Bindings) → IsSchemaSet setting.schemas → IsWrittenType case.kind → IsRegular branch
    → is_included setting.schemas t case.kind ≡ true → Keeps setting before t operand
    → after operand (λ xs left. meaning (context_of setting) (typed_expression branch) ((case.variable, xs) ∷ bindings) left)
    ≡ after operand (λ xs left. switched setting.schemas (case ∷ cases) default (meaning (context_of setting) (typed_expression branch) ∷ branches) xs bindings left)
case_means setting case cases default branch branches t before (gives xs left) bindings schemas written regular e keeps =
    none_may_be_bound (context_of setting) branch case.variable xs bindings left regular
    ∙ sym (ap (λ (b : Bool). if b then meaning (context_of setting) (typed_expression branch) (position_bound case.variable xs ++ bindings) left
    else switched setting.schemas cases default branches xs bindings left)
    (is_instance_where setting.schemas left t case.kind xs schemas written keeps.honest e keeps.fact))
case_means setting case cases default branch branches t before (raises code) bindings schemas written regular e keeps = refl
case_means setting case cases default branch branches t before wrong bindings schemas written regular e keeps = refl

pub decided_keeps : RuleKeeps Decided
decided_keeps setting variables (At place outer carried (operators.Switch [] default) (a_part operand (a_part branch no_parts))) other types stands h situation =
    let same : made_let setting.schemas place (plain_binder default place) operand branch ≡ other = cc in
    ap (λ (d : PlanExpression). meaning (context_of setting) (typed_expression d) situation.bindings situation.forest) (sym same)
    ∙ default_means (context_of setting) default branch (meaning (context_of setting) (typed_expression operand) situation.bindings situation.forest) situation.bindings stands.regular.1.1.0
decided_keeps setting variables (At place outer carried (operators.Switch (case ∷ cases) default) (a_part operand (a_part branch branches))) other types stands h situation =
    let guard = met (is_included setting.schemas (kind_carried operand) case.kind) (made_let setting.schemas place (plain_binder case.variable place) operand branch) other h in
    let keeps : Keeps setting situation.forest (annotation_of (typed_expression operand)) (meaning (context_of setting) (typed_expression operand) situation.bindings situation.forest) =
    first_keeps setting (operators.Switch (case ∷ cases) default)
    (annotation_of (typed_expression operand) ∷ annotation_of (typed_expression branch) ∷ each_of annotation_of (typed_parts branches)) (typed_expression operand) types
    situation.bindings situation.forest situation.forest situation.calls_keep (stands.well_bound.0 situation).0 stands.sound.1.0 in
    ap (λ (d : PlanExpression). meaning (context_of setting) (typed_expression d) situation.bindings situation.forest) (sym guard.1)
    ∙ case_means setting case cases default branch (meanings (context_of setting) (typed_parts branches)) (annotation_of (typed_expression operand)) situation.forest
    (meaning (context_of setting) (typed_expression operand) situation.bindings situation.forest) situation.bindings stands.schemas stands.regular.0.0 stands.regular.1.1.0
    (ap (λ (t : SequenceType). is_included setting.schemas t case.kind) (kind_of operand) ∙ guard.0) keeps
decided_keeps setting variables _ other types stands h situation = absurd (cc)
