-- Where variables carry the types of their binders, what is fully sound with the ones is so with the others.
use Rattle.std.proofs.Common.{◌≡◌, ℕ, suc, List, [], ◌∷◌, ◌++◌, None, Some, sym, subst}
use Rattle.std.specs.List.{AllByRecursion}
use Rattle.gx_types.specs.SchemaSet.{SchemaSet}
use Rattle.gx_types.specs.SequenceType.{SequenceType}
use Rattle.gx_core.specs.declared.expression.Declaration.TheVariants.{Global, Function}
use Rattle.gx_core.specs.declared.operator.Operator.{Operator}
use Rattle.gx_core.specs.declared.signature.FunctionSignature.{FunctionSignature}
use Rattle.gx_core.specs.Queries.{TypedDeclaration, TypedFunction}
use Rattle.gx_core.specs.Expression.{At, Parts, no_parts, a_part, each_of, annotation_of}
use Rattle.gx_core.specs.Bindings.{Types, types_bound}
use Rattle.gx_core.specs.Evaluations.{PartEvaluation, evaluations}
use Rattle.gx_core.specs.Meaning.{CallOutcomes, meanings}
use Rattle.gx_core.specs.QueryMeaning.{global_types, types_declared, functions_declared}
use Rattle.gx_core.specs.Soundness.{TypedExpression, Setting, calling_setting, context_of, Fits, Situation, KeepsItsType, IsSound, PartsAreSound}
use Rattle.gx_plan.specs.Fitting.{FitsAt, BindsWell, IsWellBound, PartsAreWellBound}
use Rattle.gx_plan.specs.FullSoundness.{carrying_setting, body_types, IsFullySound, DeclarationsAreFullySound}
use Rattle.gx_plan.proofs.PartsBefore.{AreBefore, none_before, next_before, taken_before}
use Rattle.gx_sound_typing.specs.CarriedTyping.{carried_binders, CarryBound, CarryAllBound, CarryBoundInParts, CarryBoundInDeclarations, FullSoundnessWithCarriedTypes}

-- stands in gx_plan/proofs/ReplacingParts too
all_so : (P Q : PartEvaluation → Type 0) (es : List PartEvaluation) → ((e : PartEvaluation) → P e → Q e) → AllByRecursion P es → AllByRecursion Q es
all_so P Q [] h k = tt
all_so P Q (e ∷ es) h k = (h e k.0, all_so P Q es h k.1)

module _ (s : SchemaSet) (variables : Types) (known : List FunctionSignature) (calls : CallOutcomes) where
  abbrev given : Setting
  given = calling_setting s known calls

  abbrev carrying : Setting
  carrying = carrying_setting s (carried_binders variables) known calls

  -- the two settings differ in their binders alone
  abbrev situated : (types : Types) → Situation carrying types → Situation given types
  situated types situation = record {
    bindings = situation.bindings;
    forest = situation.forest;
    honest = situation.honest;
    fits = situation.fits;
    calls_keep = situation.calls_keep;
  }

  keeps_too : (t : TypedExpression) (types : Types) → KeepsItsType given t types → KeepsItsType carrying t types
  keeps_too t types h situation = h (situated types situation)

  -- what an operator binds behind some of its parts
  bound_too : (operator : Operator) (ts before behind : List SequenceType) (number : ℕ) → AreBefore ts before behind number → CarryBound variables operator ts
      → types_bound operator before ≡ carried_binders variables operator before
  bound_too operator ts before behind number a h =
      sym (subst (λ (us : List SequenceType). carried_binders variables operator us ≡ types_bound operator us) (taken_before ts before behind number a) (h number))

  mutual
    sound_too : (t : TypedExpression) (types : Types) → CarryAllBound variables t → IsSound given t types → IsSound carrying t types
    sound_too (At place outer kind operator parts) types c h = (
      keeps_too (At place outer kind operator parts) types h.0,
      parts_sound_too operator (each_of annotation_of parts) [] 0 parts types (none_before (each_of annotation_of parts)) c.0 c.1 h.1,
    )

    parts_sound_too : (operator : Operator) (ts before : List SequenceType) (number : ℕ) (parts : Parts SequenceType) (types : Types)
        → AreBefore ts before (each_of annotation_of parts) number → CarryBound variables operator ts → CarryBoundInParts variables parts
        → PartsAreSound given operator before parts types → PartsAreSound carrying operator before parts types
    parts_sound_too operator ts before number no_parts types a b c h = tt
    parts_sound_too operator ts before number (a_part first others) types a b c h = (
      subst (λ (bound : Types). IsSound carrying first (bound ++ types)) (bound_too operator ts before (annotation_of first ∷ each_of annotation_of others) number a b)
          (sound_too first (types_bound operator before ++ types) c.0 h.0),
      parts_sound_too operator ts (before ++ annotation_of first ∷ []) (suc number) others types
          (next_before ts before (each_of annotation_of others) (annotation_of first) number a) b c.1 h.1,
    )

  binds_well_too : (operator : Operator) (parts : Parts SequenceType) (types : Types) → CarryBound variables operator (each_of annotation_of parts)
      → BindsWell given operator parts types → BindsWell carrying operator parts types
  binds_well_too operator parts types b h situation =
      let ts : List SequenceType = each_of annotation_of parts in
      all_so (FitsAt given operator ts types situation.forest) (FitsAt carrying operator ts types situation.forest)
      (evaluations (context_of given) operator (meanings (context_of given) parts) situation.bindings situation.forest)
      (λ e fit. record {
        grown = fit.grown;
        honest = fit.honest;
        fits = subst (λ (bound : Types). Fits s e.forest (bound ++ types) e.bindings) (sym (b e.part)) fit.fits;
      })
      (h (situated types situation))

  mutual
    well_bound_too : (t : TypedExpression) (types : Types) → CarryAllBound variables t → IsWellBound given t types → IsWellBound carrying t types
    well_bound_too (At place outer kind operator parts) types c h = (
      binds_well_too operator parts types c.0 h.0,
      parts_well_bound_too operator (each_of annotation_of parts) [] 0 parts types (none_before (each_of annotation_of parts)) c.0 c.1 h.1,
    )

    parts_well_bound_too : (operator : Operator) (ts before : List SequenceType) (number : ℕ) (parts : Parts SequenceType) (types : Types)
        → AreBefore ts before (each_of annotation_of parts) number → CarryBound variables operator ts → CarryBoundInParts variables parts
        → PartsAreWellBound given operator before parts types → PartsAreWellBound carrying operator before parts types
    parts_well_bound_too operator ts before number no_parts types a b c h = tt
    parts_well_bound_too operator ts before number (a_part first others) types a b c h = (
      subst (λ (bound : Types). IsWellBound carrying first (bound ++ types)) (bound_too operator ts before (annotation_of first ∷ each_of annotation_of others) number a b)
          (well_bound_too first (types_bound operator before ++ types) c.0 h.0),
      parts_well_bound_too operator ts (before ++ annotation_of first ∷ []) (suc number) others types
          (next_before ts before (each_of annotation_of others) (annotation_of first) number a) b c.1 h.1,
    )

-- ---- whole queries

full_too : (s : SchemaSet) (variables : Types) (t : TypedExpression) (types : Types) → CarryAllBound variables t → IsFullySound s types_bound t types
    → IsFullySound s (carried_binders variables) t types
full_too s variables t types c h = record {
  arguments = h.arguments;
  sound = λ known calls all. sound_too s variables known calls t types c (h.sound known calls all);
  well_bound = λ known calls all. well_bound_too s variables known calls t types c (h.well_bound known calls all);
}

declarations_full_too : (s : SchemaSet) (variables : Types) (functions : List (TypedFunction × Types)) (ds : List TypedDeclaration) (types : Types)
    → CarryBoundInDeclarations variables ds → DeclarationsAreFullySound s types_bound functions ds types
    → DeclarationsAreFullySound s (carried_binders variables) functions ds types
declarations_full_too s variables functions [] types c h = tt
declarations_full_too s variables functions (Global name binder (Some value) ∷ ds) types c h = (
  (full_too s variables value types c.0 h.0.0, h.0.1),
  declarations_full_too s variables functions ds (global_types (Global name binder (Some value)) ++ types) c.1 h.1,
)
declarations_full_too s variables functions (Global name binder None ∷ ds) types c h =
    (tt, declarations_full_too s variables functions ds (global_types (Global name binder None) ++ types) c.1 h.1)
declarations_full_too s variables functions (Function function ∷ ds) types c h = (
  record { body = full_too s variables function.body (body_types function types) c.0 h.0.body; converts = h.0.converts },
  declarations_full_too s variables functions ds types c.1 h.1,
)

pub full_soundness_with_carried_types : FullSoundnessWithCarriedTypes
full_soundness_with_carried_types s variables query c h = record {
  declarations = declarations_full_too s variables (functions_declared query.declarations []) query.declarations [] c.declarations h.declarations;
  body = full_too s variables query.body (types_declared query.declarations []) c.body h.body;
  calls = h.calls;
}
