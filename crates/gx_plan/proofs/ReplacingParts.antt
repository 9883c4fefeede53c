-- Sound parts may be replaced by what comes to the same, and compiling keeps what a sound expression comes to.
use Rattle.std.proofs.Common.{◌≡◌, ℕ, zero, suc, Bool, true, false, Some, List, [], ◌∷◌, ◌++◌, length, take, refl, sym, ◌∙◌, ap, subst, append_assoc, if◌then◌else◌}
use Rattle.std.specs.Prelude.{slice_get, option_map}
use Rattle.std.specs.List.{AllByRecursion, list_all}
use Rattle.std.proofs.lemmas.List.{append-nil}
use Rattle.gx_base.specs.declared.place.Place.{Place}
use Rattle.gx_types.specs.SchemaSet.{SchemaSet}
use Rattle.gx_types.specs.SequenceType.{SequenceType}
use Rattle.gx_model.specs.Forest.{Forest}
use Rattle.gx_model.specs.Honest.{IsHonest}
use Rattle.gx_model.specs.Item.{Items}
use Rattle.gx_model.specs.Growth.{Extends}
use Rattle.gx_core.specs.declared.operator.Operator.{Operator}
use Rattle.gx_core.specs.declared.operator.Operator.TheVariants as operators
use Rattle.gx_core.specs.declared.signature.FunctionSignature.{FunctionSignature}
use Rattle.gx_core.specs.Expression.{At, Parts, no_parts, a_part, each_of, annotation_of}
use Rattle.gx_core.specs.Bindings.{Types, types_bound}
use Rattle.gx_core.specs.Outcome.{Outcome, gives, raises, wrong, after}
use Rattle.gx_core.specs.Paths.{is_node}
use Rattle.gx_core.specs.Meaning.{CallOutcomes, Context, Bindings, Denotation, acts, denoted, meaning, meanings}
use Rattle.gx_core.specs.Evaluations.{PartEvaluation, evaluations}
use Rattle.gx_core.specs.Laws.{AgreeAt}
use Rattle.gx_core.specs.Soundness.{TypedExpression, Setting, calling_setting, context_of, Keeps, Fits, CallsKeepTypes, IsSound, PartsAreSound}
use Rattle.gx_core.proofs.KeptFacts.{calls_keep_still}
use Rattle.gx_core.proofs.SoundQueries.{keeps_its_type}
use Rattle.gx_core.proofs.DecidingParts.{parts_decide}
use Rattle.gx_plan.specs.declared.plan.Carried.{Carried}
use Rattle.gx_plan.specs.Compiling.{compiled_operator, compiled, compiled_parts}
use Rattle.gx_plan.specs.Fitting.{PartsKeepTheirTypes, FitsAt, IsWellBound, PartsAreWellBound, SoundExpressionsAreWellBound}
use Rattle.gx_plan.specs.SameMeaning.{ComesToTheSame, PartsComeToTheSameFrom, WellBoundPartsMayBeReplaced, CompilingKeeps}
use Rattle.gx_plan.proofs.FittingEvaluations.{evaluations_fit}

-- ---- sound expressions are well bound

-- sound parts keep their types
pub parts_keep : (setting : Setting) (operator : Operator) (before : List SequenceType) (parts : Parts SequenceType) (types : Types)
    → PartsAreSound setting operator before parts types
    → PartsKeepTheirTypes setting operator before (meanings (context_of setting) parts) (each_of annotation_of parts) types
parts_keep setting operator before no_parts types h = tt
parts_keep setting operator before (a_part first others) types h = (
  keeps_its_type setting first (setting.binders operator before ++ types) h.0,
  parts_keep setting operator (before ++ annotation_of first ∷ []) others types h.1,
)

mutual
  well_bound : (s : SchemaSet) (known : List FunctionSignature) (calls : CallOutcomes) (e : TypedExpression) (types : Types)
      → IsSound (calling_setting s known calls) e types → IsWellBound (calling_setting s known calls) e types
  well_bound s known calls (At place outer kind operator parts) types h =
      let setting : Setting = calling_setting s known calls in (
        (λ situation. evaluations_fit s known calls operator (meanings (context_of setting) parts) (each_of annotation_of parts) types situation
            (parts_keep setting operator [] parts types h.1)),
        parts_well_bound s known calls operator [] parts types h.1,
      )

  parts_well_bound : (s : SchemaSet) (known : List FunctionSignature) (calls : CallOutcomes) (operator : Operator) (before : List SequenceType)
      (parts : Parts SequenceType) (types : Types) → PartsAreSound (calling_setting s known calls) operator before parts types
      → PartsAreWellBound (calling_setting s known calls) operator before parts types
  parts_well_bound s known calls operator before no_parts types h = tt
  parts_well_bound s known calls operator before (a_part first others) types h = (
    well_bound s known calls first (types_bound operator before ++ types) h.0,
    parts_well_bound s known calls operator (before ++ annotation_of first ∷ []) others types h.1,
  )

pub sound_expressions_are_well_bound : SoundExpressionsAreWellBound
sound_expressions_are_well_bound s known calls e types h = well_bound s known calls e types h

-- ---- where a part stands, its counterpart comes to the same

as_many : (setting : Setting) (start : Forest) (operator : Operator) (before : List SequenceType) (parts : Parts SequenceType) (others : List Denotation)
    (types : Types) → PartsComeToTheSameFrom setting start operator before others parts types
    → length (meanings (context_of setting) parts) ≡ length others
as_many setting start operator before no_parts [] types h = refl
as_many setting start operator before no_parts (d ∷ others) types h = absurd h
as_many setting start operator before (a_part first rest) [] types h = absurd h
as_many setting start operator before (a_part first rest) (d ∷ others) types h =
    ap suc (as_many setting start operator (before ++ annotation_of first ∷ []) rest others types h.1)

same_there : (setting : Setting) (start : Forest) (operator : Operator) (before : List SequenceType) (parts : Parts SequenceType) (others : List Denotation)
    (types : Types) → PartsComeToTheSameFrom setting start operator before others parts types
    → (number : ℕ) (bindings : Bindings) (forest : Forest) → Extends start forest → IsHonest setting.schemas forest
    → Fits setting.schemas forest (setting.binders operator (before ++ take number (each_of annotation_of parts)) ++ types) bindings
    → CallsKeepTypes setting forest
    → option_map (λ (part : Denotation). part bindings forest) (slice_get (meanings (context_of setting) parts) number)
    ≡ option_map (λ (part : Denotation). part bindings forest) (slice_get others number)
same_there setting start operator before no_parts [] types h number bindings forest grown honest fits calls_keep = refl
same_there setting start operator before no_parts (d ∷ others) types h number bindings forest grown honest fits calls_keep = absurd h
same_there setting start operator before (a_part first rest) [] types h number bindings forest grown honest fits calls_keep = absurd h
same_there setting start operator before (a_part first rest) (d ∷ others) types h zero bindings forest grown honest fits calls_keep =
    let here : Fits setting.schemas forest (setting.binders operator before ++ types) bindings =
    subst (λ (ts : List SequenceType). Fits setting.schemas forest (setting.binders operator ts ++ types) bindings) (append-nil before) fits in
    sym (ap (λ (o : Outcome Items). Some o)
    (h.0 (record { bindings = bindings; forest = forest; honest = honest; fits = here; calls_keep = calls_keep }) grown))
same_there setting start operator before (a_part first rest) (d ∷ others) types h (suc number) bindings forest grown honest fits calls_keep =
    same_there setting start operator (before ++ annotation_of first ∷ []) rest others types h.1 number bindings forest grown honest
    (subst (λ (ts : List SequenceType). Fits setting.schemas forest (setting.binders operator ts ++ types) bindings)
    (sym (append_assoc before (annotation_of first ∷ []) (take number (each_of annotation_of rest)))) fits) calls_keep

all_so : (P Q : PartEvaluation → Type 0) (es : List PartEvaluation) → ((e : PartEvaluation) → P e → Q e) → AllByRecursion P es
    → AllByRecursion Q es
all_so P Q [] h k = tt
all_so P Q (e ∷ es) h k = (h e k.0, all_so P Q es h k.1)

pub well_bound_parts_may_be_replaced : WellBoundPartsMayBeReplaced
well_bound_parts_may_be_replaced setting operator parts others types situation well same =
    let context : Context = context_of setting in
    let ts : List SequenceType = each_of annotation_of parts in
    sym (parts_decide context operator (meanings context parts) others situation.bindings situation.forest
    (as_many setting situation.forest operator [] parts others types same)
    (all_so (FitsAt setting operator ts types situation.forest) (AgreeAt (meanings context parts) others)
    (evaluations context operator (meanings context parts) situation.bindings situation.forest)
    (λ e fit. same_there setting situation.forest operator [] parts others types same e.part e.bindings e.forest fit.grown fit.honest fit.fits
    (calls_keep_still setting situation.forest e.forest fit.grown situation.calls_keep))
    (well situation))).0

-- ---- compiling

-- the value of `nodes` is that of its operand, where it is no type error
nodes_are_alone : (setting : Setting) (t : SequenceType) (before : Forest) (o : Outcome Items)
    → Keeps setting before t (after (after o (λ value left. gives (value ∷ []) left)) (acts (context_of setting) operators.Nodes))
    → o ≡ after (after o (λ value left. gives (value ∷ []) left)) (acts (context_of setting) operators.Nodes)
nodes_are_alone setting t before (gives xs now) k =
    elim (list_all is_node xs) as (λ (alone : Bool). Keeps setting before t (if alone then gives xs now else wrong)
    → gives xs now ≡ (if alone then gives xs now else wrong)) [
      | true ↦ λ h. refl
      | false ↦ λ h. absurd h
    ] k
nodes_are_alone setting t before (raises code) k = refl
nodes_are_alone setting t before wrong k = refl

compiled_means : (setting : Setting) (t : SequenceType) (place outer : Place) (kind : SequenceType) (operator : Operator) (parts : Parts Carried)
    (bindings : Bindings) (before forest : Forest)
    → Keeps setting before t (denoted (context_of setting) operator (meanings (context_of setting) parts) bindings forest)
    → meaning (context_of setting) (compiled_operator place outer kind operator parts) bindings forest
    ≡ denoted (context_of setting) operator (meanings (context_of setting) parts) bindings forest
compiled_means setting t place outer kind operators.Nodes (a_part operand no_parts) bindings before forest k =
    nodes_are_alone setting t before (meaning (context_of setting) operand bindings forest) k
compiled_means setting t place outer kind operator parts bindings before forest k = refl

mutual
  compiled_same : (s : SchemaSet) (known : List FunctionSignature) (calls : CallOutcomes) (e : TypedExpression) (types : Types)
      → IsSound (calling_setting s known calls) e types
      → ComesToTheSame (calling_setting s known calls) (meaning (context_of (calling_setting s known calls)) (compiled e)) e types
  compiled_same s known calls (At place outer kind operator parts) types h situation =
      let setting : Setting = calling_setting s known calls in
      let context : Context = context_of setting in
      let same : denoted context operator (meanings context (compiled_parts parts)) situation.bindings situation.forest
      ≡ denoted context operator (meanings context parts) situation.bindings situation.forest =
      well_bound_parts_may_be_replaced setting operator parts (meanings context (compiled_parts parts)) types situation
      (well_bound s known calls (At place outer kind operator parts) types h).0
      (compiled_parts_same s known calls situation.forest operator [] parts types h.1) in
      compiled_means setting kind place outer kind operator (compiled_parts parts) situation.bindings situation.forest situation.forest
      (subst (λ (o : Outcome Items). Keeps setting situation.forest kind o) (sym same) (h.0 situation)) ∙ same

  compiled_parts_same : (s : SchemaSet) (known : List FunctionSignature) (calls : CallOutcomes) (start : Forest) (operator : Operator) (before : List SequenceType)
      (parts : Parts SequenceType) (types : Types) → PartsAreSound (calling_setting s known calls) operator before parts types
      → PartsComeToTheSameFrom (calling_setting s known calls) start operator before (meanings (context_of (calling_setting s known calls)) (compiled_parts parts)) parts types
  compiled_parts_same s known calls start operator before no_parts types h = tt
  compiled_parts_same s known calls start operator before (a_part first others) types h = (
    (λ situation grown. compiled_same s known calls first (types_bound operator before ++ types) h.0 situation),
    compiled_parts_same s known calls start operator (before ++ annotation_of first ∷ []) others types h.1,
  )

pub compiling_keeps : CompilingKeeps
compiling_keeps s known calls e types h = compiled_same s known calls e types h
