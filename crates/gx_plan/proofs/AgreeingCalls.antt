-- What comes to the same as a fully sound expression may stand for it.
use Rattle.std.proofs.Common.{◌≡◌, ℕ, suc, List, [], ◌∷◌, ◌++◌, refl, sym, ◌∙◌, subst}
use Rattle.std.specs.List.{AllByRecursion}
use Rattle.gx_types.specs.SchemaSet.{SchemaSet}
use Rattle.gx_types.specs.SequenceType.{SequenceType}
use Rattle.gx_model.specs.Forest.{Forest}
use Rattle.gx_model.specs.Honest.{IsHonest}
use Rattle.gx_model.specs.Item.{Items}
use Rattle.gx_model.specs.Growth.{Extends}
use Rattle.gx_model.proofs.PublicLaws.{growth_is_an_order, values_stay}
use Rattle.gx_core.specs.declared.operator.Operator.{Operator}
use Rattle.gx_core.specs.declared.operator.Operator.TheVariants as operators
use Rattle.gx_core.specs.declared.signature.FunctionSignature.{FunctionSignature}
use Rattle.gx_core.specs.CalledFunctions.{IsCallOf, AllCalls, AllCallsInParts}
use Rattle.gx_core.specs.Converting.{arguments_converted}
use Rattle.gx_core.specs.Expression.{At, Parts, no_parts, a_part, each_of, annotation_of}
use Rattle.gx_core.specs.Bindings.{Types}
use Rattle.gx_core.specs.Outcome.{Outcome, gives, raises, wrong, after}
use Rattle.gx_core.specs.Meaning.{CallOutcomes, Bindings, Denotation, acts, all_of, denoted, meaning, meanings}
use Rattle.gx_core.specs.Evaluations.{PartEvaluation, evaluations_after, operand_evaluations}
use Rattle.gx_core.specs.Soundness.{TypedExpression, Setting, typed_setting, calling_setting, context_of, KeepsFact, IsOfType, AreOfTypes, Keeps, Fits, CallsKeepTypes, Situation, IsSound, PartsAreSound}
use Rattle.gx_core.proofs.KeptFacts.{fact_after, fact_at_once, calls_keep_still}
use Rattle.gx_plan.specs.Fitting.{PartsKeepTheirTypes, FitsAt, BindsWell, IsWellBound, PartsAreWellBound}
use Rattle.gx_plan.specs.SameMeaning.{PartsComeToTheSameFrom}
use Rattle.gx_plan.specs.FullSoundness.{Binders, carrying_setting, TakesItsArguments, CallsTakeTheirArguments, CallsInPartsTakeTheirArguments}
use Rattle.gx_plan.specs.StandingFor.{CallsAgree, SameExpressionsMayStandFor}
use Rattle.gx_plan.proofs.PartsBefore.{AreBefore, none_before, next_before, taken_before}
use Rattle.gx_plan.proofs.ReplacingParts.{parts_keep, well_bound_parts_may_be_replaced}

-- what follows is the same for each result that there may be
pub same_after : {R S : Type 0} (setting : Setting) (before : Forest) (P : Forest → R → Type 0) (o : Outcome R) (next following : R → Forest → Outcome S)
    → KeepsFact setting before P o
    → ((x : R) (now : Forest) → Extends before now → IsHonest setting.schemas now → P now x → next x now ≡ following x now)
    → after o next ≡ after o following
same_after setting before P (gives x now) next following k h = h x now k.grown k.honest k.fact
same_after setting before P (raises code) next following k h = refl
same_after setting before P wrong next following k h = refl

-- calls that agree with calls which keep their types keep them too
agreeing_keep : (s : SchemaSet) (known : List FunctionSignature) (calls others : CallOutcomes) (forest : Forest) → CallsKeepTypes (calling_setting s known calls) forest
    → CallsAgree (calling_setting s known calls) others forest → CallsKeepTypes (calling_setting s known others) forest
agreeing_keep s known calls others forest keep agree now signature values k e honest belong =
    subst (λ (o : Outcome Items). Keeps (typed_setting s) now signature.result o) (sym (agree now signature values k e honest belong))
    (keep now signature values k e honest belong)

agree_still : (s : SchemaSet) (known : List FunctionSignature) (calls others : CallOutcomes) (before now : Forest) → Extends before now
    → CallsAgree (calling_setting s known calls) others before → CallsAgree (calling_setting s known calls) others now
agree_still s known calls others before now e agree last signature values k f honest belong =
    agree last signature values k (growth_is_an_order.transitive before now last e f) honest belong

-- ---- the operands of a call

-- a fact about a result, and what holds of the evaluations that follow it
with_asked : {R : Type 0} (setting : Setting) (Holds : PartEvaluation → Type 0) (before : Forest) (Fact : Forest → R → Type 0) (o : Outcome R)
    (asked : R → Forest → List PartEvaluation) → KeepsFact setting before Fact o → AllByRecursion Holds (evaluations_after o asked)
    → KeepsFact setting before (λ now x. Fact now x × AllByRecursion Holds (asked x now)) o
with_asked setting Holds before Fact (gives x now) asked k all = record { grown = k.grown; honest = k.honest; fact = (k.fact, all) }
with_asked setting Holds before Fact (raises code) asked k all = tt
with_asked setting Holds before Fact wrong asked k all = absurd k

-- the values of operands belong to their types where each evaluation of an operand fits
operands_are_of_types : (setting : Setting) (operator : Operator) (ts : List SequenceType) (types : Types) (start : Forest) → CallsKeepTypes setting start
    → (before : List SequenceType) (number : ℕ) (ds : List Denotation) (us : List SequenceType) (bindings : Bindings) (now : Forest) → AreBefore ts before us number
    → PartsKeepTheirTypes setting operator before ds us types → Extends start now → IsHonest setting.schemas now
    → AllByRecursion (FitsAt setting operator ts types start) (operand_evaluations number ds bindings now)
    → KeepsFact setting now (AreOfTypes setting.schemas us) (all_of ds bindings now)
operands_are_of_types setting operator ts types start calls_keep before number [] [] bindings now a keep grown honest fit =
    fact_at_once setting now (AreOfTypes setting.schemas []) [] honest tt
operands_are_of_types setting operator ts types start calls_keep before number [] (u ∷ us) bindings now a keep grown honest fit = absurd keep
operands_are_of_types setting operator ts types start calls_keep before number (d ∷ ds) [] bindings now a keep grown honest fit = absurd keep
operands_are_of_types setting operator ts types start calls_keep before number (d ∷ ds) (u ∷ us) bindings now a keep grown honest fit =
    let asked : Items → Forest → List PartEvaluation = λ value left. operand_evaluations (suc number) ds bindings left in
    let situation : Situation setting (setting.binders operator before ++ types) = record {
      bindings = bindings;
      forest = now;
      honest = honest;
      fits = subst (λ (bs : List SequenceType). Fits setting.schemas now (setting.binders operator bs ++ types) bindings)
          (taken_before ts before (u ∷ us) number a) fit.0.fits;
      calls_keep = calls_keep_still setting start now grown calls_keep;
    } in
    let After : Forest → Items → Type 0 = λ left value. IsOfType setting.schemas u left value × AllByRecursion (FitsAt setting operator ts types start) (asked value left) in
    fact_after setting now After (AreOfTypes setting.schemas (u ∷ us)) (d bindings now)
    (λ value left. after (all_of ds bindings left) (λ values last. gives (value ∷ values) last))
    (with_asked setting (FitsAt setting operator ts types start) now (IsOfType setting.schemas u) (d bindings now) asked (keep.0 situation) fit.1)
    (λ value left e still h. fact_after setting left (AreOfTypes setting.schemas us) (AreOfTypes setting.schemas (u ∷ us)) (all_of ds bindings left)
    (λ values last. gives (value ∷ values) last)
    (operands_are_of_types setting operator ts types start calls_keep (before ++ u ∷ []) (suc number) ds us bindings left
    (next_before ts before us u number a) keep.1 (growth_is_an_order.transitive start now left grown e) still h.1)
    (λ values last f again are. fact_at_once setting last (AreOfTypes setting.schemas (u ∷ us)) (value ∷ values) again
    (values_stay setting.schemas left last value u f h.0, are)))

-- ---- expressions

-- a situation with calls that agree
agreeing : (s : SchemaSet) (binders : Binders) (known : List FunctionSignature) (calls others : CallOutcomes) (types : Types)
    (situation : Situation (carrying_setting s binders known calls) types) → CallsAgree (calling_setting s known calls) others situation.forest
    → CallsKeepTypes (carrying_setting s binders known others) situation.forest
agreeing s binders known calls others types situation agree =
    agreeing_keep s known calls others situation.forest situation.calls_keep agree

-- an operator comes to the same with calls that agree
operator_agrees : (s : SchemaSet) (binders : Binders) (known : List FunctionSignature) (calls others : CallOutcomes) (operator : Operator) (parts : Parts SequenceType)
    (types : Types) (situation : Situation (carrying_setting s binders known calls) types) → CallsAgree (calling_setting s known calls) others situation.forest
    → IsCallOf known operator → TakesItsArguments s operator (each_of annotation_of parts)
    → PartsAreSound (carrying_setting s binders known others) operator [] parts types → BindsWell (carrying_setting s binders known others) operator parts types
    → denoted (record { schemas = s; calls = others }) operator (meanings (record { schemas = s; calls = others }) parts) situation.bindings situation.forest
    ≡ denoted (record { schemas = s; calls = calls }) operator (meanings (record { schemas = s; calls = others }) parts) situation.bindings situation.forest
operator_agrees s binders known calls others (operators.User signature count) parts types situation agree called takes sound well =
    let setting : Setting = carrying_setting s binders known others in
    let operator : Operator = operators.User signature count in
    let ts : List SequenceType = each_of annotation_of parts in
    let own : Situation setting types = record {
      bindings = situation.bindings;
      forest = situation.forest;
      honest = situation.honest;
      fits = situation.fits;
      calls_keep = agreeing s binders known calls others types situation agree;
    } in
    same_after setting situation.forest (AreOfTypes s ts) (all_of (meanings (context_of setting) parts) situation.bindings situation.forest)
    (acts (record { schemas = s; calls = others }) operator) (acts (record { schemas = s; calls = calls }) operator)
    (operands_are_of_types setting operator ts types situation.forest own.calls_keep [] 0 (meanings (context_of setting) parts) ts situation.bindings situation.forest
    (none_before ts) (parts_keep setting operator [] parts types sound) (growth_is_an_order.reflexive situation.forest) situation.honest (well own))
    (λ values now e honest belong. same_after (typed_setting s) now (AreOfTypes s signature.parameters) (arguments_converted s signature.parameters values now)
    (λ arguments left. others signature arguments left) (λ arguments left. calls signature arguments left) (takes now values honest belong)
    (λ arguments left f still are. agree left signature arguments called.0 (growth_is_an_order.transitive situation.forest now left e f) still are))
operator_agrees s binders known calls others operator parts types situation agree called takes sound well = refl

mutual
  expression_agrees : (s : SchemaSet) (binders : Binders) (known : List FunctionSignature) (calls others : CallOutcomes) (e : TypedExpression) (types : Types)
      → AllCalls known e → CallsTakeTheirArguments s e → IsWellBound (carrying_setting s binders known calls) e types
      → IsSound (carrying_setting s binders known others) e types → IsWellBound (carrying_setting s binders known others) e types
      → (situation : Situation (carrying_setting s binders known calls) types) → CallsAgree (calling_setting s known calls) others situation.forest
      → meaning (record { schemas = s; calls = others }) e situation.bindings situation.forest
      ≡ meaning (record { schemas = s; calls = calls }) e situation.bindings situation.forest
  expression_agrees s binders known calls others (At place outer kind operator parts) types called takes well sound other_well situation agree =
      operator_agrees s binders known calls others operator parts types situation agree called.0 takes.0 sound.1 other_well.0
      ∙ well_bound_parts_may_be_replaced (carrying_setting s binders known calls) operator parts (meanings (record { schemas = s; calls = others }) parts) types
      situation well.0
      (parts_agree s binders known calls others situation.forest operator [] parts types called.1 takes.1 well.1 sound.1 other_well.1 agree)

  parts_agree : (s : SchemaSet) (binders : Binders) (known : List FunctionSignature) (calls others : CallOutcomes) (start : Forest) (operator : Operator)
      (before : List SequenceType) (parts : Parts SequenceType) (types : Types) → AllCallsInParts known parts → CallsInPartsTakeTheirArguments s parts
      → PartsAreWellBound (carrying_setting s binders known calls) operator before parts types
      → PartsAreSound (carrying_setting s binders known others) operator before parts types
      → PartsAreWellBound (carrying_setting s binders known others) operator before parts types
      → CallsAgree (calling_setting s known calls) others start
      → PartsComeToTheSameFrom (carrying_setting s binders known calls) start operator before (meanings (record { schemas = s; calls = others }) parts) parts types
  parts_agree s binders known calls others start operator before no_parts types called takes well sound other_well agree = tt
  parts_agree s binders known calls others start operator before (a_part first rest) types called takes well sound other_well agree = (
    (λ situation grown. expression_agrees s binders known calls others first (binders operator before ++ types) called.0 takes.0 well.0 sound.0 other_well.0 situation
        (agree_still s known calls others start situation.forest grown agree)),
    parts_agree s binders known calls others start operator (before ++ annotation_of first ∷ []) rest types called.1 takes.1 well.1 sound.1 other_well.1 agree,
  )

pub same_expressions_may_stand_for : (A : Type 0) → SameExpressionsMayStandFor A
same_expressions_may_stand_for A s binders e other types full same known calls others called situation agree =
    same known others called (record {
      bindings = situation.bindings;
      forest = situation.forest;
      honest = situation.honest;
      fits = situation.fits;
      calls_keep = agreeing_keep s known calls others situation.forest situation.calls_keep agree;
    })
    ∙ expression_agrees s binders known calls others e types called full.arguments (full.well_bound known calls called) (full.sound known others called)
    (full.well_bound known others called) (record {
      bindings = situation.bindings;
      forest = situation.forest;
      honest = situation.honest;
      fits = situation.fits;
      calls_keep = situation.calls_keep;
    }) agree
