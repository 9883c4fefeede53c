-- Doing the tasks of declarations and of the body comes to the judgement of the query.
use Rattle.std.proofs.Common.{◌≡◌, List, [], ◌∷◌, ◌++◌, length, drop, None, Some, refl, sym, ◌∙◌, ap, append_assoc}
use Rattle.std.proofs.lemmas.List.{append-nil}
use Rattle.gx_types.specs.SchemaSet.{SchemaSet}
use Rattle.gx_core.specs.Queries.{Core, CoreDeclaration, TypedDeclaration, CoreFunction}
use Rattle.gx_core.specs.declared.expression.Declaration.TheVariants.{Global, Function}
use Rattle.gx_core.specs.declared.expression.Binder.{Binder}
use Rattle.gx_core.specs.CalledFunctions.{type_of_parameter}
use Rattle.gx_core.specs.Bindings.{Types}
use Rattle.gx_core.specs.QueryMeaning.{global_types, types_declared, parameter_types}
use Rattle.gx_core.specs.Soundness.{TypedExpression}
use Rattle.gx_static.specs.Judgement.{Judged, Judgement, typed, rejected, with_typed, judged}
use Rattle.gx_static.specs.QueryJudgement.{declared_as, function_with, declarations_judged, core_typed}
use Rattle.gx_static.specs.declared.typing.Task.{Task}
use Rattle.gx_static.specs.declared.typing.Task.TheVariants.{Infer, OpenFunction, DeclareFunction, Declare, External}
use Rattle.gx_static.specs.Typing.{Awaited, then_typed, tasks_of, continued}

-- the tasks of the last declaration lie under those of the others
pub tasks_joined : (ds : List CoreDeclaration) (d : CoreDeclaration) (behind : List Task) → tasks_of (ds ++ d ∷ []) behind ≡ tasks_of ds (tasks_of (d ∷ []) behind)
tasks_joined [] d behind = refl
tasks_joined (Function function ∷ ds) d behind = ap (λ (tasks : List Task). OpenFunction function ∷ tasks) (tasks_joined ds d behind)
tasks_joined (Global name binder (Some value) ∷ ds) d behind = ap (λ (tasks : List Task). Infer value ∷ Declare name binder ∷ tasks) (tasks_joined ds d behind)
tasks_joined (Global name binder None ∷ ds) d behind = ap (λ (tasks : List Task). External name binder ∷ tasks) (tasks_joined ds d behind)

put_in_front : (d : TypedDeclaration) (j : Judged (List TypedDeclaration)) (next : List TypedDeclaration → Awaited) → then_typed j (λ ds. next (d ∷ ds)) ≡ then_typed (with_typed j (λ ds. typed (d ∷ ds))) next
put_in_front d (typed ds) next = refl
put_in_front d (rejected place code) next = refl

one_more : (j : Judged TypedDeclaration) (others : TypedDeclaration → Judged (List TypedDeclaration)) (rest : TypedDeclaration → Awaited) (next : List TypedDeclaration → Awaited)
    → ((d : TypedDeclaration) → rest d ≡ then_typed (others d) (λ ds. next (d ∷ ds)))
    → then_typed j rest ≡ then_typed (with_typed j (λ d. with_typed (others d) (λ ds. typed (d ∷ ds)))) next
one_more (typed d) others rest next h = h d ∙ put_in_front d (others d) next
one_more (rejected place code) others rest next h = refl

first_judged : {R : Type 0} (j : Judgement) (make : TypedExpression → Judged R) (next : R → Awaited) → then_typed j (λ t. then_typed (make t) next) ≡ then_typed (with_typed j make) next
first_judged (typed t) make next = refl
first_judged (rejected place code) make next = refl

also_behind : (j : Judged (List TypedDeclaration)) (f g : List TypedDeclaration → Awaited) → ((ds : List TypedDeclaration) → f ds ≡ g ds) → then_typed j f ≡ then_typed j g
also_behind (typed ds) f g h = h ds
also_behind (rejected place code) f g h = refl

behind_one : (declared ds : List TypedDeclaration) (d : TypedDeclaration) → (declared ++ d ∷ []) ++ ds ≡ declared ++ (d ∷ ds)
behind_one declared ds d = append_assoc declared (d ∷ []) ds

declarations_continue : (schemas : SchemaSet) (ds : List CoreDeclaration) (behind : List Task) (parts : List TypedExpression) (types : Types) (declared : List TypedDeclaration)
    → continued schemas (tasks_of ds behind) parts types declared ≡ then_typed (declarations_judged schemas ds types) (λ ts. continued schemas behind parts (types_declared ts types) (declared ++ ts))
declarations_continue schemas [] behind parts types declared = ap (λ (ts : List TypedDeclaration). continued schemas behind parts types ts) (sym (append-nil declared))
declarations_continue schemas (Global name binder (Some value) ∷ ds) behind parts types declared =
    first_judged (judged schemas value types) (declared_as schemas name binder) (λ d. continued schemas (tasks_of ds behind) parts (global_types d ++ types) (declared ++ d ∷ []))
    ∙ one_more (with_typed (judged schemas value types) (declared_as schemas name binder)) (λ d. declarations_judged schemas ds (global_types d ++ types))
    (λ d. continued schemas (tasks_of ds behind) parts (global_types d ++ types) (declared ++ d ∷ []))
    (λ ts. continued schemas behind parts (types_declared ts types) (declared ++ ts))
    (λ d. declarations_continue schemas ds behind parts (global_types d ++ types) (declared ++ d ∷ [])
    ∙ also_behind (declarations_judged schemas ds (global_types d ++ types)) _ _ (λ ts. ap (λ (us : List TypedDeclaration). continued schemas behind parts (types_declared ts (global_types d ++ types)) us) (behind_one declared ts d)))
declarations_continue schemas (Function function ∷ ds) behind parts types declared =
    let body : Judgement = judged schemas function.body (parameter_types function.parameters ++ types) in
    let make : TypedExpression → Judged TypedDeclaration = function_with schemas function.place function.name function.parameters function.result in
    first_judged body make (λ d. continued schemas (tasks_of ds behind) parts (global_types d ++ types) (declared ++ d ∷ []))
    ∙ one_more (with_typed body make) (λ d. declarations_judged schemas ds (global_types d ++ types))
    (λ d. continued schemas (tasks_of ds behind) parts (global_types d ++ types) (declared ++ d ∷ []))
    (λ ts. continued schemas behind parts (types_declared ts types) (declared ++ ts))
    (λ d. declarations_continue schemas ds behind parts (global_types d ++ types) (declared ++ d ∷ [])
    ∙ also_behind (declarations_judged schemas ds (global_types d ++ types)) _ _ (λ ts. ap (λ (us : List TypedDeclaration). continued schemas behind parts (types_declared ts (global_types d ++ types)) us) (behind_one declared ts d)))
declarations_continue schemas (Global name binder None ∷ ds) behind parts types declared =
    one_more (typed (Global name binder None)) (λ d. declarations_judged schemas ds (global_types d ++ types))
    (λ d. continued schemas (tasks_of ds behind) parts (global_types d ++ types) (declared ++ d ∷ []))
    (λ ts. continued schemas behind parts (types_declared ts types) (declared ++ ts))
    (λ d. declarations_continue schemas ds behind parts (global_types d ++ types) (declared ++ d ∷ [])
    ∙ also_behind (declarations_judged schemas ds (global_types d ++ types)) _ _ (λ ts. ap (λ (us : List TypedDeclaration). continued schemas behind parts (types_declared ts (global_types d ++ types)) us) (behind_one declared ts d)))

body_judged : (schemas : SchemaSet) (core : Core) (j : Judged (List TypedDeclaration))
    → then_typed j (λ ds. then_typed (judged schemas core.body (types_declared ds [])) (λ t. Some (typed (record { declarations = ds; body = t }))))
    ≡ Some (with_typed j (λ ds. with_typed (judged schemas core.body (types_declared ds [])) (λ t. typed (record { declarations = ds; body = t }))))
body_judged schemas core (rejected place code) = refl
body_judged schemas core (typed ds) = last_judged (judged schemas core.body (types_declared ds []))
  where
    last_judged : (j : Judgement) → then_typed j (λ t. Some (typed (record { declarations = ds; body = t }))) ≡ Some (with_typed j (λ t. typed (record { declarations = ds; body = t })))
    last_judged (typed t) = refl
    last_judged (rejected place code) = refl

pub tasks_come_to_the_judgement : (schemas : SchemaSet) (core : Core) → continued schemas (tasks_of core.declarations (Infer core.body ∷ [])) [] [] [] ≡ Some (core_typed schemas core)
tasks_come_to_the_judgement schemas core =
    declarations_continue schemas core.declarations (Infer core.body ∷ []) [] [] [] ∙ body_judged schemas core (declarations_judged schemas core.declarations [])

-- parameters go out of scope
pub parameters_end : (parameters : List Binder) (types : Types) → drop (length parameters) (parameter_types parameters ++ types) ≡ types
parameters_end [] types = refl
parameters_end (parameter ∷ parameters) types = parameters_end parameters types

-- the last parameter is bound first
pub last_parameter : (before : List Binder) (parameter : Binder) (types : Types)
    → parameter_types (before ++ parameter ∷ []) ++ types ≡ parameter_types before ++ ((parameter.variable, type_of_parameter parameter) ∷ types)
last_parameter [] parameter types = refl
last_parameter (first ∷ before) parameter types = ap (λ (ts : Types). (first.variable, type_of_parameter first) ∷ ts) (last_parameter before parameter types)

-- typing the body of a function with its parameters in scope, and declaring it behind them
pub function_opens : (schemas : SchemaSet) (function : CoreFunction) (tasks : List Task) (parts : List TypedExpression) (types : Types) (declared : List TypedDeclaration)
    → continued schemas (Infer function.body ∷ DeclareFunction function.place function.name function.parameters function.result ∷ tasks) parts (parameter_types function.parameters ++ types) declared
    ≡ continued schemas (OpenFunction function ∷ tasks) parts types declared
function_opens schemas function tasks parts types declared i =
    then_typed (judged schemas function.body (parameter_types function.parameters ++ types))
    (λ t. then_typed (function_with schemas function.place function.name function.parameters function.result t)
    (λ d. continued schemas tasks parts (global_types d ++ parameters_end function.parameters types i) (declared ++ d ∷ [])))
