-- Each evaluation that an operator asks for fits, where its parts keep their types.
use Rattle.std.proofs.Common.{◌≡◌, ◌+◌, ℕ, Bool, true, false, List, [], ◌∷◌, ◌++◌, length, drop, refl, sym, subst, arith}
use Rattle.std.specs.List.{AllByRecursion}
use Rattle.gx_sorting.specs.declared.keys.KeyOrder.{KeyOrder}
use Rattle.gx_types.specs.SchemaSet.{SchemaSet}
use Rattle.gx_types.specs.SequenceType.{SequenceType}
use Rattle.gx_types.specs.Prime.{prime_of}
use Rattle.gx_model.specs.Forest.{Forest}
use Rattle.gx_model.specs.Item.{Item}
use Rattle.gx_model.specs.Growth.{Extends}
use Rattle.gx_model.proofs.PublicLaws.{growth_is_an_order}
use Rattle.gx_core.specs.declared.cases.TypeCase.{TypeCase}
use Rattle.gx_core.specs.declared.expression.Binder.{Binder}
use Rattle.gx_core.specs.declared.operator.ClauseKind.{ClauseKind}
use Rattle.gx_core.specs.declared.operator.Operator.{Operator}
use Rattle.gx_core.specs.declared.operator.Operator.TheVariants as operators
use Rattle.gx_core.specs.declared.signature.FunctionSignature.{FunctionSignature}
use Rattle.gx_core.specs.Bindings.{Types, block_types_bound, types_bound}
use Rattle.gx_core.specs.Comparing.{condition_of}
use Rattle.gx_core.specs.Blocks.{tuples_of}
use Rattle.gx_core.specs.Meaning.{CallOutcomes, Bindings, Denotation, item_bound}
use Rattle.gx_core.specs.Evaluations.{evaluation_of_part, evaluations_after, evaluations_given, operand_evaluations, turn_evaluations, search_evaluations, chosen_part, branch_evaluations, tuple_evaluations, block_return_evaluations, evaluations}
use Rattle.gx_core.specs.Soundness.{calling_setting, context_of, Situation}
use Rattle.gx_core.proofs.KeptFacts.{bindings_fit_still, binding_fits, calls_keep_still}
use Rattle.gx_plan.specs.Fitting.{PartsKeepTheirTypes, FitsAt, EvaluationsFit}
use Rattle.gx_plan.proofs.FittingBindings.{items_belong, item_fits}
use Rattle.gx_plan.proofs.GivenFacts.{all_after, all_given, all_both}
use Rattle.gx_plan.proofs.PartsBefore.{none_before, next_before}
use Rattle.gx_plan.proofs.FittingParts.{Stands, stands_still, one_fits, part_fits, operands_fit, turns_fit, search_fits, branches_fit}
use Rattle.gx_plan.proofs.FittingBlocks.{RowsFit, tuples_give, tuples_fit, clauses_returns_fit}

-- ---- the law

-- where an evaluation begins
abbrev begins : (s : SchemaSet) (known : List FunctionSignature) (calls : CallOutcomes) (operator : Operator) (ts : List SequenceType) (types : Types)
    (situation : Situation (calling_setting s known calls) types) → Stands s known calls operator ts types situation.forest types situation.bindings situation.forest
begins s known calls operator ts types situation = record {
  grown = growth_is_an_order.reflexive situation.forest;
  honest = situation.honest;
  fits = situation.fits;
  calls_keep = situation.calls_keep;
}

-- an operator whose parts stand under no binding of its own
strict_fits : (s : SchemaSet) (known : List FunctionSignature) (calls : CallOutcomes) (operator : Operator) (parts : List Denotation) (ts : List SequenceType)
    (types : Types) (situation : Situation (calling_setting s known calls) types) → ((more : List SequenceType) → types_bound operator more ≡ [])
    → PartsKeepTheirTypes (calling_setting s known calls) operator [] parts ts types
    → AllByRecursion (FitsAt (calling_setting s known calls) operator ts types situation.forest) (operand_evaluations 0 parts situation.bindings situation.forest)
strict_fits s known calls operator parts ts types situation none keep =
    operands_fit s known calls operator ts types situation.forest none [] 0 parts ts situation.bindings situation.forest (none_before ts)
    (begins s known calls operator ts types situation) keep

for_fits : (s : SchemaSet) (known : List FunctionSignature) (calls : CallOutcomes) (binder : Binder) (position : ℕ) (a b : Denotation) (t u : SequenceType)
    (types : Types) (situation : Situation (calling_setting s known calls) types)
    → PartsKeepTheirTypes (calling_setting s known calls) (operators.For binder position) [] (a ∷ b ∷ []) (t ∷ u ∷ []) types
    → AllByRecursion (FitsAt (calling_setting s known calls) (operators.For binder position) (t ∷ u ∷ []) types situation.forest)
    (evaluations (context_of (calling_setting s known calls)) (operators.For binder position) (a ∷ b ∷ []) situation.bindings situation.forest)
for_fits s known calls binder position a b t u types situation keep =
    let operator : Operator = operators.For binder position in
    let ts : List SequenceType = t ∷ u ∷ [] in
    let bound : ℕ → Item → Bindings = λ number x. item_bound binder.variable position number x ++ situation.bindings in
    part_fits s known calls operator ts types situation.forest [] ts 0 t a situation.bindings situation.forest
    (λ xs left. turn_evaluations 1 bound b 1 xs left) (none_before ts) (begins s known calls operator ts types situation) keep.0
    (λ xs left e honest belongs. turns_fit s known calls operator ts types situation.forest (t ∷ []) (u ∷ []) 1 u (prime_of t) b bound left
    (next_before ts [] (u ∷ []) t 0 (none_before ts)) keep.1.0
    (λ turn x now f still one.
    let grown : Extends situation.forest now = growth_is_an_order.transitive situation.forest left now e f in record {
      grown = grown;
      honest = still;
      fits = item_fits (calling_setting s known calls) binder position turn (prime_of t) x types situation.bindings now
          (bindings_fit_still (calling_setting s known calls) types situation.bindings situation.forest now grown situation.fits) one;
      calls_keep = calls_keep_still (calling_setting s known calls) situation.forest now grown situation.calls_keep;
    })
    xs 1 left (growth_is_an_order.reflexive left) honest (items_belong s left t xs belongs))

quantified_fits : (s : SchemaSet) (known : List FunctionSignature) (calls : CallOutcomes) (operator : Operator) (decisive : Bool) (binder : Binder) (a b : Denotation)
    (t u : SequenceType) (types : Types) (situation : Situation (calling_setting s known calls) types)
    → types_bound operator [] ≡ [] → types_bound operator (t ∷ []) ≡ (binder.variable, prime_of t) ∷ []
    → PartsKeepTheirTypes (calling_setting s known calls) operator [] (a ∷ b ∷ []) (t ∷ u ∷ []) types
    → AllByRecursion (FitsAt (calling_setting s known calls) operator (t ∷ u ∷ []) types situation.forest)
    (evaluation_of_part 0 situation.bindings situation.forest
    ∷ evaluations_after (a situation.bindings situation.forest)
    (λ xs left. search_evaluations 1 decisive (λ x. (binder.variable, x ∷ []) ∷ situation.bindings) b xs left))
quantified_fits s known calls operator decisive binder a b t u types situation none one_bound keep =
    let ts : List SequenceType = t ∷ u ∷ [] in
    let bound : Item → Bindings = λ x. (binder.variable, x ∷ []) ∷ situation.bindings in
    part_fits s known calls operator ts types situation.forest [] ts 0 t a situation.bindings situation.forest
    (λ xs left. search_evaluations 1 decisive bound b xs left) (none_before ts)
    (subst (λ (here : Types). Stands s known calls operator ts types situation.forest (here ++ types) situation.bindings situation.forest) (sym none)
    (begins s known calls operator ts types situation)) keep.0
    (λ xs left e honest belongs. search_fits s known calls operator ts types situation.forest (t ∷ []) (u ∷ []) 1 u (prime_of t) b decisive bound left
    (next_before ts [] (u ∷ []) t 0 (none_before ts)) keep.1.0
    (λ x now f still one.
    let grown : Extends situation.forest now = growth_is_an_order.transitive situation.forest left now e f in
    subst (λ (here : Types). Stands s known calls operator ts types situation.forest (here ++ types) ((binder.variable, x ∷ []) ∷ situation.bindings) now) (sym one_bound)
    (record {
      grown = grown;
      honest = still;
      fits = binding_fits (calling_setting s known calls) binder (prime_of t) (x ∷ []) types situation.bindings now
          (bindings_fit_still (calling_setting s known calls) types situation.bindings situation.forest now grown situation.fits) one;
      calls_keep = calls_keep_still (calling_setting s known calls) situation.forest now grown situation.calls_keep;
    }))
    xs left (growth_is_an_order.reflexive left) honest (items_belong s left t xs belongs))

let_fits : (s : SchemaSet) (known : List FunctionSignature) (calls : CallOutcomes) (binder : Binder) (a b : Denotation) (t u : SequenceType)
    (types : Types) (situation : Situation (calling_setting s known calls) types)
    → PartsKeepTheirTypes (calling_setting s known calls) (operators.Let binder) [] (a ∷ b ∷ []) (t ∷ u ∷ []) types
    → AllByRecursion (FitsAt (calling_setting s known calls) (operators.Let binder) (t ∷ u ∷ []) types situation.forest)
    (evaluations (context_of (calling_setting s known calls)) (operators.Let binder) (a ∷ b ∷ []) situation.bindings situation.forest)
let_fits s known calls binder a b t u types situation keep =
    let operator : Operator = operators.Let binder in
    let ts : List SequenceType = t ∷ u ∷ [] in
    part_fits s known calls operator ts types situation.forest [] ts 0 t a situation.bindings situation.forest
    (λ xs left. evaluation_of_part 1 ((binder.variable, xs) ∷ situation.bindings) left ∷ []) (none_before ts)
    (begins s known calls operator ts types situation) keep.0
    (λ xs left e honest belongs. (
      one_fits s known calls operator ts types situation.forest (t ∷ []) (u ∷ []) 1 ((binder.variable, xs) ∷ situation.bindings) left
          (next_before ts [] (u ∷ []) t 0 (none_before ts)) (record {
            grown = e;
            honest = honest;
            fits = binding_fits (calling_setting s known calls) binder t xs types situation.bindings left
                (bindings_fit_still (calling_setting s known calls) types situation.bindings situation.forest left e situation.fits) belongs;
            calls_keep = calls_keep_still (calling_setting s known calls) situation.forest left e situation.calls_keep;
          }),
      tt,
    ))

if_fits : (s : SchemaSet) (known : List FunctionSignature) (calls : CallOutcomes) (a b c : Denotation) (t u v : SequenceType)
    (types : Types) (situation : Situation (calling_setting s known calls) types)
    → PartsKeepTheirTypes (calling_setting s known calls) operators.If [] (a ∷ b ∷ c ∷ []) (t ∷ u ∷ v ∷ []) types
    → AllByRecursion (FitsAt (calling_setting s known calls) operators.If (t ∷ u ∷ v ∷ []) types situation.forest)
    (evaluations (context_of (calling_setting s known calls)) operators.If (a ∷ b ∷ c ∷ []) situation.bindings situation.forest)
if_fits s known calls a b c t u v types situation keep =
    let ts : List SequenceType = t ∷ u ∷ v ∷ [] in
    part_fits s known calls operators.If ts types situation.forest [] ts 0 t a situation.bindings situation.forest
    (λ xs left. evaluations_given (condition_of xs) (λ truth. evaluation_of_part (chosen_part truth) situation.bindings left ∷ [])) (none_before ts)
    (begins s known calls operators.If ts types situation) keep.0
    (λ xs left e honest belongs. all_given (FitsAt (calling_setting s known calls) operators.If ts types situation.forest) (condition_of xs)
    (λ truth. evaluation_of_part (chosen_part truth) situation.bindings left ∷ [])
    (λ truth. (
      record {
        grown = e;
        honest = honest;
        fits = bindings_fit_still (calling_setting s known calls) types situation.bindings situation.forest left e situation.fits;
      },
      tt,
    )))

switch_fits : (s : SchemaSet) (known : List FunctionSignature) (calls : CallOutcomes) (cases : List TypeCase) (default : ℕ) (a : Denotation) (ds : List Denotation)
    (t : SequenceType) (us : List SequenceType) (types : Types) (situation : Situation (calling_setting s known calls) types)
    → PartsKeepTheirTypes (calling_setting s known calls) (operators.Switch cases default) [] (a ∷ ds) (t ∷ us) types
    → AllByRecursion (FitsAt (calling_setting s known calls) (operators.Switch cases default) (t ∷ us) types situation.forest)
    (evaluations (context_of (calling_setting s known calls)) (operators.Switch cases default) (a ∷ ds) situation.bindings situation.forest)
switch_fits s known calls cases default a ds t us types situation keep =
    let operator : Operator = operators.Switch cases default in
    let ts : List SequenceType = t ∷ us in
    part_fits s known calls operator ts types situation.forest [] ts 0 t a situation.bindings situation.forest
    (λ xs left. branch_evaluations s cases default 1 ds xs situation.bindings left) (none_before ts)
    (begins s known calls operator ts types situation) keep.0
    (λ xs left e honest belongs. branches_fit s known calls operator ts types situation.forest default t xs situation.bindings left
    (stands_still s known calls operator ts types situation.forest types situation.bindings situation.forest left
    (begins s known calls operator ts types situation) e honest) belongs cases (t ∷ []) 1 ds us
    (next_before ts [] us t 0 (none_before ts)) (λ more. refl) keep.1)

block_fits : (s : SchemaSet) (known : List FunctionSignature) (calls : CallOutcomes) (kinds : List ClauseKind) (orders : List KeyOrder) (ds : List Denotation)
    (ts : List SequenceType) (types : Types) (situation : Situation (calling_setting s known calls) types)
    → PartsKeepTheirTypes (calling_setting s known calls) (operators.Block kinds orders) [] ds ts types
    → AllByRecursion (FitsAt (calling_setting s known calls) (operators.Block kinds orders) ts types situation.forest)
    (evaluations (context_of (calling_setting s known calls)) (operators.Block kinds orders) ds situation.bindings situation.forest)
block_fits s known calls kinds orders ds ts types situation keep =
    let operator : Operator = operators.Block kinds orders in
    let outer : Bindings = situation.bindings in
    let start : Forest = situation.forest in
    let first = begins s known calls operator ts types situation in
    all_both (FitsAt (calling_setting s known calls) operator ts types start) (tuple_evaluations kinds orders 0 ds [] outer start)
    (evaluations_after (tuples_of kinds orders ds [] outer start)
    (block_return_evaluations orders (length kinds + length orders) (drop (length orders) (drop (length kinds) ds)) outer))
    (tuples_fit s known calls operator ts types start kinds orders [] 0 ds ts [] [] outer start (none_before ts) (λ more. refl) first keep)
    (all_after s (FitsAt (calling_setting s known calls) operator ts types start) start
    (RowsFit s known calls operator ts types start (block_types_bound kinds ts [] ++ types) outer) (tuples_of kinds orders ds [] outer start)
    (block_return_evaluations orders (length kinds + length orders) (drop (length orders) (drop (length kinds) ds)) outer)
    (tuples_give s known calls operator ts types start kinds orders [] ds ts [] [] outer start (λ more. refl) first keep)
    (λ tuples now e honest rows. clauses_returns_fit s known calls operator ts types start orders outer tuples now e honest
    (calls_keep_still (calling_setting s known calls) start now e situation.calls_keep) kinds [] 0 (length kinds + length orders) ds ts [] (omega arith)
    (none_before ts) (λ more. refl) rows keep))

pub evaluations_fit : EvaluationsFit
evaluations_fit s known calls (operators.For binder position) (a ∷ b ∷ []) (t ∷ u ∷ []) types situation keep = for_fits s known calls binder position a b t u types situation keep
evaluations_fit s known calls (operators.For binder position) (a ∷ b ∷ []) [] types situation keep = absurd keep
evaluations_fit s known calls (operators.For binder position) (a ∷ b ∷ []) (t ∷ []) types situation keep = absurd keep.1
evaluations_fit s known calls (operators.For binder position) (a ∷ b ∷ []) (t ∷ u ∷ v ∷ ts) types situation keep = absurd keep.1.1
evaluations_fit s known calls (operators.For binder position) _ ts types situation keep = tt
evaluations_fit s known calls (operators.SomeIn binder) (a ∷ b ∷ []) (t ∷ u ∷ []) types situation keep = quantified_fits s known calls (operators.SomeIn binder) true binder a b t u types situation refl refl keep
evaluations_fit s known calls (operators.SomeIn binder) (a ∷ b ∷ []) [] types situation keep = absurd keep
evaluations_fit s known calls (operators.SomeIn binder) (a ∷ b ∷ []) (t ∷ []) types situation keep = absurd keep.1
evaluations_fit s known calls (operators.SomeIn binder) (a ∷ b ∷ []) (t ∷ u ∷ v ∷ ts) types situation keep = absurd keep.1.1
evaluations_fit s known calls (operators.SomeIn binder) _ ts types situation keep = tt
evaluations_fit s known calls (operators.EveryIn binder) (a ∷ b ∷ []) (t ∷ u ∷ []) types situation keep = quantified_fits s known calls (operators.EveryIn binder) false binder a b t u types situation refl refl keep
evaluations_fit s known calls (operators.EveryIn binder) (a ∷ b ∷ []) [] types situation keep = absurd keep
evaluations_fit s known calls (operators.EveryIn binder) (a ∷ b ∷ []) (t ∷ []) types situation keep = absurd keep.1
evaluations_fit s known calls (operators.EveryIn binder) (a ∷ b ∷ []) (t ∷ u ∷ v ∷ ts) types situation keep = absurd keep.1.1
evaluations_fit s known calls (operators.EveryIn binder) _ ts types situation keep = tt
evaluations_fit s known calls (operators.Let binder) (a ∷ b ∷ []) (t ∷ u ∷ []) types situation keep = let_fits s known calls binder a b t u types situation keep
evaluations_fit s known calls (operators.Let binder) (a ∷ b ∷ []) [] types situation keep = absurd keep
evaluations_fit s known calls (operators.Let binder) (a ∷ b ∷ []) (t ∷ []) types situation keep = absurd keep.1
evaluations_fit s known calls (operators.Let binder) (a ∷ b ∷ []) (t ∷ u ∷ v ∷ ts) types situation keep = absurd keep.1.1
evaluations_fit s known calls (operators.Let binder) _ ts types situation keep = tt
evaluations_fit s known calls (operators.Switch cases default) [] ts types situation keep = tt
evaluations_fit s known calls (operators.Switch cases default) (a ∷ ds) [] types situation keep = absurd keep
evaluations_fit s known calls (operators.Switch cases default) (a ∷ ds) (t ∷ us) types situation keep = switch_fits s known calls cases default a ds t us types situation keep
evaluations_fit s known calls (operators.Block kinds orders) ds ts types situation keep = block_fits s known calls kinds orders ds ts types situation keep
evaluations_fit s known calls operators.If (a ∷ b ∷ c ∷ []) (t ∷ u ∷ v ∷ []) types situation keep = if_fits s known calls a b c t u v types situation keep
evaluations_fit s known calls operators.If (a ∷ b ∷ c ∷ []) [] types situation keep = absurd keep
evaluations_fit s known calls operators.If (a ∷ b ∷ c ∷ []) (t ∷ []) types situation keep = absurd keep.1
evaluations_fit s known calls operators.If (a ∷ b ∷ c ∷ []) (t ∷ u ∷ []) types situation keep = absurd keep.1.1
evaluations_fit s known calls operators.If (a ∷ b ∷ c ∷ []) (t ∷ u ∷ v ∷ w ∷ ts) types situation keep = absurd keep.1.1.1
evaluations_fit s known calls operators.If _ ts types situation keep = tt
evaluations_fit s known calls operator parts ts types situation keep = strict_fits s known calls operator parts ts types situation (λ more. refl) keep
