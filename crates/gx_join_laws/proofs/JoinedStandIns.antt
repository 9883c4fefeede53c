-- A plan that may stand for a query with hash joins has its outcome.
use Rattle.std.proofs.Common.{◌≡◌, ◌⊎◌, inl, inr, ℕ, zero, suc, Bool, true, false, List, [], ◌∷◌, ◌++◌, map, Option, None, Some, refl, sym, ◌∙◌, ap, subst, nat_eq, if◌then◌else◌}
use Rattle.std.specs.Prelude.{Contains, option_map}
use Rattle.std.specs.List.{slice_get}
use Rattle.std.proofs.lemmas.Bool.{eqb-true, ne_eqb}
use Rattle.gx_base.specs.declared.code.Code.TheVariants.{GLXD0001}
use Rattle.gx_types.specs.SchemaSet.{SchemaSet}
use Rattle.gx_types.specs.SequenceType.{SequenceType}
use Rattle.gx_model.specs.Forest.{PlainNode, Forest}
use Rattle.gx_model.specs.Honest.{IsHonest}
use Rattle.gx_model.specs.Item.{node, Items}
use Rattle.gx_model.specs.Belongs.{Belongs}
use Rattle.gx_model.specs.Growth.{Extends}
use Rattle.gx_model.proofs.PublicLaws.{growth_is_an_order, values_stay}
use Rattle.gx_core.specs.declared.expression.Binder.{Binder}
use Rattle.gx_core.specs.declared.expression.Declaration.TheVariants.{Global, Function}
use Rattle.gx_core.specs.declared.signature.FunctionSignature.{FunctionSignature}
use Rattle.gx_core.specs.Queries.{CoreDeclaration, TypedDeclaration, TypedFunction}
use Rattle.gx_core.specs.Expression.{annotation_of}
use Rattle.gx_core.specs.Bindings.{Types, look_up}
use Rattle.gx_core.specs.CalledFunctions.{type_of_parameter}
use Rattle.gx_core.specs.Converting.{converted}
use Rattle.gx_core.specs.FreeVariables.{is_free_in, FitsFree}
use Rattle.gx_core.specs.Functions.{functions_of, arguments_bound, calls_over, context_over}
use Rattle.gx_core.specs.Outcome.{Outcome, raises, after, given}
use Rattle.gx_core.specs.Meaning.{Bindings, meaning}
use Rattle.gx_core.specs.Soundness.{TypedExpression, typed_setting, calling_setting, KeepsFact, IsOfType, AreOfTypes, Keeps, IsBoundTo, Fits, CallsKeepTypes, Situation}
use Rattle.gx_core.specs.QueryMeaning.{plain_declaration, globals_bound, external_types, global_types, types_declared, parameter_types, functions_declared, IsCallable, CallsCallable, IsDeclaredSo, DocumentsFit}
use Rattle.gx_core.proofs.CallLemmas.{calls_end, calls_go_on, function_called, slice_map}
use Rattle.gx_core.proofs.KeptFacts.{fact_after, fact_at_once, bindings_fit_still, binding_fits}
use Rattle.gx_plan.specs.FullSoundness.{types_named, body_types}
use Rattle.gx_plan.specs.Plan.{PlanExpression, FunctionOfPlan, DeclarationOfPlan}
use Rattle.gx_plan.specs.StandingFor.{KeepsItsTypeWithCalls, FunctionKeepsItsTypes, DeclarationsKeepTheirTypes}
use Rattle.gx_plan.proofs.AgreeingCalls.{same_after}
use Rattle.gx_joins.specs.JoinedMeaning.{joined_meaning, joined_calls, joined_context, joined_globals, joined_outcome}
use Rattle.gx_join_laws.specs.JoinedStanding.{JoinedMayStandFor, JoinedFunctionMayStandFor, JoinedDeclarationsMayStandFor, JoinedStandInsHaveTheOutcome}

-- ---- a call, unfolded

joined_calls_end : (s : SchemaSet) (functions : List FunctionOfPlan) (globals : Bindings) (signature : FunctionSignature) (values : List Items) (forest : Forest)
    → joined_calls s functions globals zero signature values forest ≡ raises GLXD0001
unfolding joined_calls
joined_calls_end s functions globals signature values forest = refl

-- what a function comes to, where so many more calls may be active in its body
abbrev joined_called : SchemaSet → List FunctionOfPlan → (globals : Bindings) → (left : ℕ) → List Items → Forest → FunctionOfPlan → Outcome Items
joined_called s functions globals left values forest f =
    after (joined_meaning (joined_context s functions globals left) f.body (arguments_bound f.parameters values ++ globals) forest)
    (λ xs now. converted s f.result xs now)

joined_calls_go_on : (s : SchemaSet) (functions : List FunctionOfPlan) (globals : Bindings) (left : ℕ) (signature : FunctionSignature) (values : List Items)
    (forest : Forest)
    → joined_calls s functions globals (suc left) signature values forest
    ≡ given (slice_get functions signature.number) (joined_called s functions globals left values forest)
unfolding joined_calls
joined_calls_go_on s functions globals left signature values forest = refl

-- ---- two outcomes that are the same, and keep a fact

abbrev SameKept : {R : Type 0} → SchemaSet → (before : Forest) → (Fact : Forest → R → Type 0) → (one other : Outcome R) → Type 0
SameKept s before Fact one other = (one ≡ other) × KeepsFact (typed_setting s) before Fact other

same_kept_after : {R S : Type 0} (s : SchemaSet) (before : Forest) (P : Forest → R → Type 0) (Q : Forest → S → Type 0) (one other : Outcome R)
    (next following : R → Forest → Outcome S) → SameKept s before P one other
    → ((x : R) (now : Forest) → Extends before now → IsHonest s now → P now x → SameKept s now Q (next x now) (following x now))
    → SameKept s before Q (after one next) (after other following)
same_kept_after s before P Q one other next following k h = (
  ap (λ o. after o next) k.0
      ∙ same_after (typed_setting s) before P other next following k.1 (λ x now e honest p. (h x now e honest p).0),
  fact_after (typed_setting s) before P Q other following k.1 (λ x now e honest p. (h x now e honest p).1),
)

same_kept_so : {R : Type 0} (s : SchemaSet) (before : Forest) (Fact : Forest → R → Type 0) (one other first second : Outcome R) → one ≡ first → other ≡ second
    → SameKept s before Fact first second → SameKept s before Fact one other
same_kept_so s before Fact one other first second e f k = (
  e ∙ k.0 ∙ sym f,
  subst (λ o. KeepsFact (typed_setting s) before Fact o) (sym f) k.1,
)

-- ---- the variables that an expression names

-- a variable with a type, in front of others or left out
abbrev NamedSo : (e : TypedExpression) (named types : Types) (number : ℕ) (t : SequenceType) → Type 0
NamedSo e named types number t = look_up named number ≡ Some t → (is_free_in e number ≡ true) × (look_up types number ≡ Some t)

named_in_front : (e : TypedExpression) (binding : ℕ × SequenceType) (named types : Types) (number : ℕ) (t : SequenceType) → is_free_in e binding.0 ≡ true
    → NamedSo e named types number t → NamedSo e (binding ∷ named) (binding ∷ types) number t
named_in_front e binding named types number t is rest h =
    elim (nat_eq binding.0 number) as (λ (same : Bool). nat_eq binding.0 number ≡ same
    → (if same then Some binding.1 else look_up named number) ≡ Some t
    → (is_free_in e number ≡ true) × ((if same then Some binding.1 else look_up types number) ≡ Some t)) [
      | true ↦ λ same k. (ap (λ (n : ℕ). is_free_in e n) (sym (eqb-true binding.0 number same)) ∙ is, k)
      | false ↦ λ same k. rest k
    ] refl h

named_left_out : (e : TypedExpression) (binding : ℕ × SequenceType) (named types : Types) (number : ℕ) (t : SequenceType) → is_free_in e binding.0 ≡ false
    → NamedSo e named types number t → NamedSo e named (binding ∷ types) number t
named_left_out e binding named types number t is rest h =
    let p = rest h in
    elim (nat_eq binding.0 number) as (λ (same : Bool). nat_eq binding.0 number ≡ same
    → (is_free_in e number ≡ true) × ((if same then Some binding.1 else look_up types number) ≡ Some t)) [
      | true ↦ λ same. let free : is_free_in e binding.0 ≡ true = ap (λ (n : ℕ). is_free_in e n) (eqb-true binding.0 number same) ∙ p.0 in absurd (cc)
      | false ↦ λ same. p
    ] refl

named_so : (e : TypedExpression) (types : Types) (number : ℕ) (t : SequenceType) → NamedSo e (types_named e types) types number t
named_so e [] number t found = absurd (cc)
named_so e (binding ∷ types) number t found =
    elim (is_free_in e binding.0) as (λ (free : Bool). is_free_in e binding.0 ≡ free
    → NamedSo e (if free then binding ∷ types_named e types else types_named e types) (binding ∷ types) number t) [
      | true ↦ λ is. named_in_front e binding (types_named e types) types number t is (named_so e types number t)
      | false ↦ λ is. named_left_out e binding (types_named e types) types number t is (named_so e types number t)
    ] refl found

-- bindings that fit the variables that an expression names fit their types
named_fit : (s : SchemaSet) (forest : Forest) (e : TypedExpression) (types : Types) (bindings : Bindings) → FitsFree s forest e types bindings
    → Fits s forest (types_named e types) bindings
named_fit s forest e types bindings fits number t found = let p = named_so e types number t found in fits number t p.0 p.1

-- the other way round
named_found : (e : TypedExpression) (types : Types) (number : ℕ) → is_free_in e number ≡ true → look_up types number ≡ look_up (types_named e types) number
named_found e [] number free = refl
named_found e (binding ∷ types) number free =
    let rest = named_found e types number free in
    elim (is_free_in e binding.0) as (λ (here : Bool). is_free_in e binding.0 ≡ here
    → look_up (binding ∷ types) number ≡ look_up (if here then binding ∷ types_named e types else types_named e types) number) [
      | true ↦ λ is. ap (λ (o : Option SequenceType). if nat_eq binding.0 number then Some binding.1 else o) rest
      | false ↦ λ is.
          let apart : nat_eq binding.0 number ≡ false =
          ne_eqb binding.0 number (λ same. let other : is_free_in e number ≡ false = subst (λ (n : ℕ). is_free_in e n ≡ false) same is in absurd (cc)) in
          ap (λ (same : Bool). if same then Some binding.1 else look_up types number) apart ∙ rest
    ] refl

fit_named : (s : SchemaSet) (forest : Forest) (e : TypedExpression) (types : Types) (bindings : Bindings) → Fits s forest (types_named e types) bindings
    → FitsFree s forest e types bindings
fit_named s forest e types bindings fits number t free there = fits number t (sym (named_found e types number free) ∙ there)

-- ---- arguments

-- what is bound to a parameter is of its type; another variable has what it has without the parameters
abbrev IsArgumentOr : SchemaSet → Forest → (bound : Option Items) → (own : Option SequenceType) → (before : Types) → (outer : Option Items) → (number : ℕ) → SequenceType → Type 0
IsArgumentOr s forest bound own before outer number t =
    ((value : Items) × (bound ≡ Some value) × Belongs s forest value t) ⊎ ((own ≡ None) × (look_up before number ≡ Some t) × (bound ≡ outer))

arguments_fit : (s : SchemaSet) (forest : Forest) (parameters : List Binder) (values : List Items) (before : Types) (globals : Bindings) (number : ℕ) (t : SequenceType)
    → AreOfTypes s (map type_of_parameter parameters) forest values → look_up (parameter_types parameters ++ before) number ≡ Some t
    → IsArgumentOr s forest (look_up (arguments_bound parameters values ++ globals) number) (look_up (parameter_types parameters) number) before (look_up globals number) number t
arguments_fit s forest [] [] before globals number t belong found = inr (refl, found, refl)
arguments_fit s forest [] (xs ∷ values) before globals number t belong found = absurd belong
arguments_fit s forest (p ∷ parameters) [] before globals number t belong found = absurd belong
arguments_fit s forest (p ∷ parameters) (xs ∷ values) before globals number t belong found =
    elim (nat_eq p.variable number) as (λ (same : Bool). (if same then Some (type_of_parameter p) else look_up (parameter_types parameters ++ before) number) ≡ Some t
    → IsArgumentOr s forest (if same then Some xs else look_up (arguments_bound parameters values ++ globals) number)
    (if same then Some (type_of_parameter p) else look_up (parameter_types parameters) number) before (look_up globals number) number t) [
      | true ↦ λ h. let e : type_of_parameter p ≡ t = cc in inl (xs, refl, subst (λ (u : SequenceType). Belongs s forest xs u) e belong.0)
      | false ↦ λ h. arguments_fit s forest parameters values before globals number t belong.1 h
    ] found

-- where a function may be called, its arguments and the globals fit the variables that its body names
called_fits : (s : SchemaSet) (functions : List (TypedFunction × Types)) (types : Types) (known : List FunctionSignature) (signature : FunctionSignature)
    (c : IsCallable functions types known signature) (globals : Bindings) (base now : Forest) (values : List Items) → Fits s base types globals → Extends base now
    → AreOfTypes s signature.parameters now values
    → FitsFree s now c.function.body (parameter_types c.function.parameters ++ c.before) (arguments_bound c.function.parameters values ++ globals)
called_fits s functions types known signature c globals base now values fits e belong number t free there =
    let given_types : AreOfTypes s (map type_of_parameter c.function.parameters) now values =
    subst (λ (ts : List SequenceType). AreOfTypes s ts now values) (ap (λ (g : FunctionSignature). g.parameters) c.is) belong in
    elim (arguments_fit s now c.function.parameters values c.before globals number t given_types there) [
      | inl h ↦ record { value = h.0; bound = h.1; belongs = h.2 }
      | inr h ↦ let b : IsBoundTo s now globals number t = bindings_fit_still (typed_setting s) types globals base now e fits number t (c.named number t free h.0 h.1) in
          record { value = b.value; bound = h.2 ∙ b.bound; belongs = b.belongs }
    ]

-- ---- calls

abbrev function_in : TypedFunction × Types → TypedFunction
function_in f = f.0

-- the values of all functions keep their types, where these are declared
abbrev FunctionsKeep : SchemaSet → List (TypedFunction × Types) → Type 0
FunctionsKeep s functions =
    (number : ℕ) (f : TypedFunction) (before : Types) → slice_get functions number ≡ Some (f, before) → FunctionKeepsItsTypes s f before

-- the function with the same number among others may stand for a function
record StandIn (s : SchemaSet) (others : List FunctionOfPlan) (number : ℕ) (f : TypedFunction) (before : Types) : Type 0 where
  other : FunctionOfPlan
  there : slice_get others number ≡ Some other
  stands : JoinedFunctionMayStandFor s other f before

abbrev FunctionsMayStandFor : SchemaSet → List FunctionOfPlan → List (TypedFunction × Types) → Type 0
FunctionsMayStandFor s others functions =
    (number : ℕ) (f : TypedFunction) (before : Types) → slice_get functions number ≡ Some (f, before) → StandIn s others number f before

-- calls of functions that may be called keep their types and come to the same, however many may be active
calls_same : (s : SchemaSet) (functions : List (TypedFunction × Types)) (others : List FunctionOfPlan) (types : Types) (known : List FunctionSignature)
    (globals : Bindings) (base : Forest) (left : ℕ)
    → ((signature : FunctionSignature) → Contains known signature → IsCallable functions types known signature) → FunctionsKeep s functions
    → FunctionsMayStandFor s others functions → Fits s base types globals
    → (now : Forest) (signature : FunctionSignature) (values : List Items) → Contains known signature → Extends base now → IsHonest s now
    → AreOfTypes s signature.parameters now values
    → SameKept s now (IsOfType s signature.result) (joined_calls s others globals left signature values now)
    (calls_over s (map function_in functions) globals left signature values now)
calls_same s functions others types known globals base zero callable sound stand fits now signature values k e honest belong =
    let ends = calls_end s (map function_in functions) globals signature values now in (
      joined_calls_end s others globals signature values now ∙ sym ends,
      subst (λ (o : Outcome Items). Keeps (typed_setting s) now signature.result o) (sym ends) tt,
    )
calls_same s functions others types known globals base (suc left) callable sound stand fits now signature values k e honest belong =
    let fs : List TypedFunction = map function_in functions in
    let c : IsCallable functions types known signature = callable signature k in
    let f : TypedFunction = c.function in
    let own : FunctionKeepsItsTypes s f c.before = sound signature.number f c.before c.declared in
    let found : slice_get fs signature.number ≡ Some f =
    slice_map function_in functions signature.number ∙ ap (λ (o : Option (TypedFunction × Types)). option_map function_in o) c.declared in
    let i : StandIn s others signature.number f c.before = stand signature.number f c.before c.declared in
    let bindings : Bindings = arguments_bound f.parameters values ++ globals in
    let free : FitsFree s now f.body (parameter_types f.parameters ++ c.before) bindings =
    called_fits s functions types known signature c globals base now values fits e belong in
    let inner = λ (last : Forest) (called : FunctionSignature) (vs : List Items) (m : Contains known called) (d : Extends now last) (h : IsHonest s last)
    (b : AreOfTypes s called.parameters last vs). calls_same s functions others types known globals base left callable sound stand fits last called vs m
    (growth_is_an_order.transitive base now last e d) h b in
    let keep : CallsKeepTypes (calling_setting s known (calls_over s fs globals left)) now = λ last called vs m d h b. (inner last called vs m d h b).1 in
    let situation : Situation (calling_setting s known (calls_over s fs globals left)) (body_types f c.before) = record {
      bindings = bindings;
      forest = now;
      honest = honest;
      fits = named_fit s now f.body (parameter_types f.parameters ++ c.before) bindings free;
      calls_keep = keep;
    } in
    let with_parameters : joined_called s others globals left values now i.other
    ≡ after (joined_meaning (joined_context s others globals left) i.other.body bindings now) (λ xs last. converted s f.result xs last) =
    ap (λ (ps : List Binder). after (joined_meaning (joined_context s others globals left) i.other.body (arguments_bound ps values ++ globals) now)
    (λ xs last. converted s i.other.result xs last)) i.stands.parameters
    ∙ ap (λ (r : SequenceType). after (joined_meaning (joined_context s others globals left) i.other.body bindings now) (λ xs last. converted s r xs last)) i.stands.result in
    same_kept_so s now (IsOfType s signature.result) (joined_calls s others globals (suc left) signature values now) (calls_over s fs globals (suc left) signature values now)
    (after (joined_meaning (joined_context s others globals left) i.other.body bindings now) (λ xs last. converted s f.result xs last))
    (function_called s fs globals left values now f)
    (joined_calls_go_on s others globals left signature values now
    ∙ ap (λ (o : Option FunctionOfPlan). given o (joined_called s others globals left values now)) i.there ∙ with_parameters)
    (calls_go_on s fs globals left signature values now ∙ ap (λ (o : Option TypedFunction). given o (function_called s fs globals left values now)) found)
    (subst (λ (t : SequenceType). SameKept s now (IsOfType s t)
    (after (joined_meaning (joined_context s others globals left) i.other.body bindings now) (λ xs last. converted s f.result xs last))
    (function_called s fs globals left values now f)) (sym (ap (λ (g : FunctionSignature). g.result) c.is))
    (same_kept_after s now (IsOfType s (annotation_of f.body)) (IsOfType s f.result) (joined_meaning (joined_context s others globals left) i.other.body bindings now)
    (meaning (context_over s fs globals left) f.body bindings now) (λ xs last. converted s f.result xs last) (λ xs last. converted s f.result xs last) (
      i.stands.body known (calls_over s fs globals left) (joined_calls s others globals left) c.calls situation (λ last called vs m d h b. (inner last called vs m d h b).0),
      own.body known (calls_over s fs globals left) c.calls situation,
    )
    (λ xs last g still b. (refl, own.converts last xs still b))))

-- an expression of a sound query, and one that may stand for it
expression_same : (s : SchemaSet) (functions : List (TypedFunction × Types)) (others : List FunctionOfPlan) (limit : ℕ)
    (e : TypedExpression) (other : PlanExpression) (types : Types) (bindings : Bindings) (forest : Forest) → FunctionsKeep s functions → FunctionsMayStandFor s others functions
    → IsHonest s forest → Fits s forest types bindings → KeepsItsTypeWithCalls s e types → CallsCallable functions types e → JoinedMayStandFor s other e types
    → SameKept s forest (IsOfType s (annotation_of e)) (joined_meaning (joined_context s others bindings limit) other bindings forest)
    (meaning (context_over s (map function_in functions) bindings limit) e bindings forest)
expression_same s functions others limit e other types bindings forest all stand honest fits sound c stands =
    let calls = calls_over s (map function_in functions) bindings limit in
    let both = calls_same s functions others types c.known bindings forest limit c.callable all stand fits in
    let situation : Situation (calling_setting s c.known calls) types = record {
      bindings = bindings;
      forest = forest;
      honest = honest;
      fits = fits;
      calls_keep = λ now signature values k g h b. (both now signature values k g h b).1;
    } in (
      stands c.known calls (joined_calls s others bindings limit) c.calls situation (λ now signature values k g h b. (both now signature values k g h b).0),
      sound c.known calls c.calls situation,
    )

-- ---- globals

declared_still : (s : SchemaSet) (before now : Forest) (kind : Option SequenceType) (document : PlainNode) → Extends before now
    → IsDeclaredSo s before kind document → IsDeclaredSo s now kind document
declared_still s before now None document e h = absurd h
declared_still s before now (Some t) document e h = values_stay s before now (node document ∷ []) t e h

documents_still : (s : SchemaSet) (before now : Forest) (ds : List CoreDeclaration) (documents : List PlainNode) → Extends before now
    → DocumentsFit s before ds documents → DocumentsFit s now ds documents
documents_still s before now [] documents e h = tt
documents_still s before now (Function f ∷ ds) documents e h = documents_still s before now ds documents e h
documents_still s before now (Global name binder (Some value) ∷ ds) documents e h = documents_still s before now ds documents e h
documents_still s before now (Global name binder None ∷ ds) [] e h = absurd h
documents_still s before now (Global name binder None ∷ ds) (document ∷ documents) e h =
    (declared_still s before now binder.kind document e h.0, documents_still s before now ds documents e h.1)

document_fits : (s : SchemaSet) (forest : Forest) (binder : Binder) (kind : Option SequenceType) (document : PlainNode) (types : Types) (bindings : Bindings)
    → IsDeclaredSo s forest kind document → Fits s forest types bindings
    → Fits s forest (external_types binder kind ++ types) ((binder.variable, node document ∷ []) ∷ bindings)
document_fits s forest binder None document types bindings h fits = absurd h
document_fits s forest binder (Some t) document types bindings h fits =
    binding_fits (typed_setting s) binder t (node document ∷ []) types bindings forest fits h

globals_same : (s : SchemaSet) (functions : List (TypedFunction × Types)) (fs : List FunctionOfPlan) (limit : ℕ) (others : List DeclarationOfPlan)
    (ds : List TypedDeclaration) (documents : List PlainNode) (types : Types) (bindings : Bindings) (forest : Forest)
    → FunctionsKeep s functions → FunctionsMayStandFor s fs functions → IsHonest s forest → Fits s forest types bindings
    → DeclarationsKeepTheirTypes s functions ds types → JoinedDeclarationsMayStandFor s others ds types → DocumentsFit s forest (map plain_declaration ds) documents
    → SameKept s forest (λ now found. Fits s now (types_declared ds types) found) (joined_globals s fs limit others documents bindings forest)
    (globals_bound s (map function_in functions) limit ds documents bindings forest)
globals_same s functions fs limit [] [] documents types bindings forest all stand honest fits sound stands fit =
    (refl, fact_at_once (typed_setting s) forest (λ now found. Fits s now types found) bindings honest fits)
globals_same s functions fs limit [] (d ∷ ds) documents types bindings forest all stand honest fits sound stands fit = absurd stands
globals_same s functions fs limit (o ∷ others) [] documents types bindings forest all stand honest fits sound stands fit = absurd stands
globals_same s functions fs limit (Function o ∷ others) (Function f ∷ ds) documents types bindings forest all stand honest fits sound stands fit =
    globals_same s functions fs limit others ds documents types bindings forest all stand honest fits sound.1 stands.1 fit
globals_same s functions fs limit (Function o ∷ others) (Global name binder value ∷ ds) documents types bindings forest all stand honest fits sound stands fit = absurd stands.0
globals_same s functions fs limit (Global name binder (Some other) ∷ others) (Function f ∷ ds) documents types bindings forest all stand honest fits sound stands fit = absurd stands.0
globals_same s functions fs limit (Global name binder None ∷ others) (Function f ∷ ds) documents types bindings forest all stand honest fits sound stands fit = absurd stands.0
globals_same s functions fs limit (Global name binder (Some other) ∷ others) (Global own_name own_binder None ∷ ds) documents types bindings forest all stand honest fits sound stands fit = absurd stands.0
globals_same s functions fs limit (Global name binder None ∷ others) (Global own_name own_binder (Some value) ∷ ds) documents types bindings forest all stand honest fits sound stands fit = absurd stands.0
globals_same s functions fs limit (Global name binder (Some other) ∷ others) (Global own_name own_binder (Some value) ∷ ds) documents types bindings forest all stand honest fits sound stands fit =
    let next : Binder → Items → Forest → Outcome Bindings = λ b items left. joined_globals s fs limit others documents ((b.variable, items) ∷ bindings) left in
    same_kept_so s forest (λ now found. Fits s now (types_declared ds ((own_binder.variable, annotation_of value) ∷ types)) found)
    (after (joined_meaning (joined_context s fs bindings limit) other bindings forest) (next binder))
    (globals_bound s (map function_in functions) limit (Global own_name own_binder (Some value) ∷ ds) documents bindings forest)
    (after (joined_meaning (joined_context s fs bindings limit) other bindings forest) (next own_binder))
    (globals_bound s (map function_in functions) limit (Global own_name own_binder (Some value) ∷ ds) documents bindings forest)
    (ap (λ (b : Binder). after (joined_meaning (joined_context s fs bindings limit) other bindings forest) (next b)) stands.0.0) refl
    (same_kept_after s forest (IsOfType s (annotation_of value)) (λ now found. Fits s now (types_declared ds ((own_binder.variable, annotation_of value) ∷ types)) found)
    (joined_meaning (joined_context s fs bindings limit) other bindings forest) (meaning (context_over s (map function_in functions) bindings limit) value bindings forest)
    (next own_binder) (λ items left. globals_bound s (map function_in functions) limit ds documents ((own_binder.variable, items) ∷ bindings) left)
    (expression_same s functions fs limit value other types bindings forest all stand honest fits sound.0.0 sound.0.1 stands.0.1)
    (λ items now e still belongs.
    globals_same s functions fs limit others ds documents ((own_binder.variable, annotation_of value) ∷ types) ((own_binder.variable, items) ∷ bindings) now all stand still
    (binding_fits (typed_setting s) own_binder (annotation_of value) items types bindings now (bindings_fit_still (typed_setting s) types bindings forest now e fits) belongs) sound.1 stands.1
    (documents_still s forest now (map plain_declaration ds) documents e fit)))
globals_same s functions fs limit (Global name binder None ∷ others) (Global own_name own_binder None ∷ ds) [] types bindings forest all stand honest fits sound stands fit = absurd fit
globals_same s functions fs limit (Global name binder None ∷ others) (Global own_name own_binder None ∷ ds) (document ∷ documents) types bindings forest all stand honest fits sound stands fit =
    same_kept_so s forest (λ now found. Fits s now (types_declared ds (external_types own_binder own_binder.kind ++ types)) found)
    (joined_globals s fs limit others documents ((binder.variable, node document ∷ []) ∷ bindings) forest)
    (globals_bound s (map function_in functions) limit ds documents ((own_binder.variable, node document ∷ []) ∷ bindings) forest)
    (joined_globals s fs limit others documents ((own_binder.variable, node document ∷ []) ∷ bindings) forest)
    (globals_bound s (map function_in functions) limit ds documents ((own_binder.variable, node document ∷ []) ∷ bindings) forest)
    (ap (λ (b : Binder). joined_globals s fs limit others documents ((b.variable, node document ∷ []) ∷ bindings) forest) stands.0) refl
    (globals_same s functions fs limit others ds documents (external_types own_binder own_binder.kind ++ types) ((own_binder.variable, node document ∷ []) ∷ bindings) forest all stand honest
    (document_fits s forest own_binder own_binder.kind document types bindings fit.0 fits) sound.1 stands.1 fit.1)

-- ---- functions by their numbers

declared_functions : (ds : List TypedDeclaration) (types : Types) → map function_in (functions_declared ds types) ≡ functions_of ds
declared_functions [] types = refl
declared_functions (Function f ∷ ds) types = ap (λ (fs : List TypedFunction). f ∷ fs) (declared_functions ds types)
declared_functions (Global name binder value ∷ ds) types = declared_functions ds (global_types (Global name binder value) ++ types)

abbrev HoldsIfThere : (TypedFunction → Types → Type 0) → Option (TypedFunction × Types) → Type 0
HoldsIfThere Holds None = Unit {0}
HoldsIfThere Holds (Some f) = Holds f.0 f.1

functions_keep : (s : SchemaSet) (all : List (TypedFunction × Types)) (ds : List TypedDeclaration) (types : Types) → DeclarationsKeepTheirTypes s all ds types
    → FunctionsKeep s (functions_declared ds types)
functions_keep s all [] types sound number f before found = absurd (cc)
functions_keep s all (Function g ∷ ds) types sound zero f before found = subst (HoldsIfThere (λ h b. FunctionKeepsItsTypes s h b)) found sound.0
functions_keep s all (Function g ∷ ds) types sound (suc number) f before found = functions_keep s all ds types sound.1 number f before found
functions_keep s all (Global name binder value ∷ ds) types sound number f before found =
    functions_keep s all ds (global_types (Global name binder value) ++ types) sound.1 number f before found

functions_stand : (s : SchemaSet) (others : List DeclarationOfPlan) (ds : List TypedDeclaration) (types : Types) → JoinedDeclarationsMayStandFor s others ds types
    → FunctionsMayStandFor s (functions_of others) (functions_declared ds types)
functions_stand s [] [] types stands number f before found = absurd (cc)
functions_stand s [] (d ∷ ds) types stands number f before found = absurd stands
functions_stand s (o ∷ others) [] types stands number f before found = absurd stands
functions_stand s (Function o ∷ others) (Function g ∷ ds) types stands zero f before found =
    subst (HoldsIfThere (λ h b. StandIn s (o ∷ functions_of others) 0 h b)) found (record { other = o; there = refl; stands = stands.0 })
functions_stand s (Function o ∷ others) (Function g ∷ ds) types stands (suc number) f before found =
    let i : StandIn s (functions_of others) number f before = functions_stand s others ds types stands.1 number f before found in
    record { other = i.other; there = i.there; stands = i.stands }
functions_stand s (Function o ∷ others) (Global name binder value ∷ ds) types stands number f before found = absurd stands.0
functions_stand s (Global name binder (Some other) ∷ others) (Function g ∷ ds) types stands number f before found = absurd stands.0
functions_stand s (Global name binder None ∷ others) (Function g ∷ ds) types stands number f before found = absurd stands.0
functions_stand s (Global name binder other ∷ others) (Global own_name own_binder value ∷ ds) types stands number f before found =
    functions_stand s others ds (global_types (Global own_name own_binder value) ++ types) stands.1 number f before found

-- ---- whole queries

pub joined_stand_ins_have_the_outcome : JoinedStandInsHaveTheOutcome
joined_stand_ins_have_the_outcome limit s query other documents forest honest fit h stands =
    let functions : List (TypedFunction × Types) = functions_declared query.declarations [] in
    let types : Types = types_declared query.declarations [] in
    let fs : List FunctionOfPlan = functions_of other.declarations in
    let all : FunctionsKeep s functions = functions_keep s functions query.declarations [] h.declarations in
    let stand : FunctionsMayStandFor s fs functions = functions_stand s other.declarations query.declarations [] stands.declarations in
    subst (λ (gs : List TypedFunction). joined_outcome limit s other documents forest
    ≡ after (globals_bound s gs limit query.declarations documents [] forest) (λ bindings left. meaning (context_over s gs bindings limit) query.body bindings left))
    (declared_functions query.declarations [])
    (same_kept_after s forest (λ now bindings. Fits s now types bindings) (IsOfType s (annotation_of query.body))
    (joined_globals s fs limit other.declarations documents [] forest) (globals_bound s (map function_in functions) limit query.declarations documents [] forest)
    (λ bindings left. joined_meaning (joined_context s fs bindings limit) other.body bindings left)
    (λ bindings left. meaning (context_over s (map function_in functions) bindings limit) query.body bindings left)
    (globals_same s functions fs limit other.declarations query.declarations documents [] [] forest all stand honest (λ number t found. absurd (cc)) h.declarations stands.declarations fit)
    (λ bindings now e still fits. expression_same s functions fs limit query.body other.body types bindings now all stand still fits h.body h.calls stands.body)).0
