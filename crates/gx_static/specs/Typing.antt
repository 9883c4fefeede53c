-- What a typing in its midst comes to.
use Rattle.std.specs.Prelude.{◌≡◌, ℕ, zero, suc, List, [], ◌∷◌, ◌++◌, length, Option, None, Some, drop, map, flat_map}
use Rattle.gx_base.specs.declared.place.Place.{Place}
use Rattle.gx_types.specs.SchemaSet.{SchemaSet}
use Rattle.gx_types.specs.SequenceType.{SequenceType}
use Rattle.gx_base.specs.declared.type_name.Builtin.TheVariants.{Integer}
use Rattle.gx_types.specs.Prime.{prime_of}
use Rattle.gx_core.specs.declared.expression.Clause.TheVariants as clauses
use Rattle.gx_core.specs.declared.operator.ClauseKind.{ClauseKind}
use Rattle.gx_core.specs.declared.operator.ClauseKind.TheVariants as kinds
use Rattle.gx_core.specs.declared.operator.Operator.{Operator}
use Rattle.gx_core.specs.declared.operator.Operator.TheVariants as operators
use Rattle.gx_core.specs.Expression.{CoreExpression, Parts, no_parts, a_part, each_of, annotation_of}
use Rattle.gx_core.specs.Bindings.{Types, position_bound, branch_types}
use Rattle.gx_core.specs.declared.cases.TypeCase.{TypeCase}
use Rattle.gx_core.specs.ExpressionView.{part_of_key}
use Rattle.gx_core.specs.declared.expression.Clause.{Clause}
use Rattle.gx_core.specs.declared.expression.SortKey.{SortKey}
use Rattle.gx_core.specs.Soundness.{TypedExpression}
use Rattle.gx_core.specs.Queries.{TypedCore, CoreDeclaration, TypedDeclaration}
use Rattle.gx_core.specs.declared.expression.Declaration.TheVariants.{Global, Function}
use Rattle.gx_core.specs.QueryMeaning.{global_types, external_types, parameter_types}
use Rattle.gx_static.specs.Rule.{atomic, arity, ruling}
use Rattle.gx_static.specs.Judgement.{Judged, typed, rejected, judged, concluded}
use Rattle.gx_static.specs.QueryJudgement.{declared_as, function_with}
use Rattle.gx_static.specs.declared.error.InferError.{InferError}
use Rattle.gx_static.specs.declared.error.InferError.TheVariants as errors
use Rattle.gx_static.specs.declared.typing.Task.{Task}
use Rattle.gx_static.specs.declared.typing.Task.TheVariants.{Infer, Bind, BindItem, Branches, NextBranch, Unbind, Finish, FinishCall, FinishSwitch, OpenFunction, DeclareFunction, Declare, External}
use Rattle.gx_static.specs.declared.typing.Typing.{Typing}

-- what a typing comes to, where no part is missing
abbrev pub Awaited : Type 0
Awaited = Option (Judged TypedCore)

-- the rest of a typing, from the first expression on; the first rejection ends it
abbrev pub then_typed : {R : Type 0} → Judged R → (R → Awaited) → Awaited
then_typed (typed result) next = next result
then_typed (rejected place code) next = Some (rejected place code)

-- how many parts an expression of the operator has: the one part that the rule of a variable and of a step asks for stands in no expression
abbrev pub part_count : Operator → ℕ
part_count (operators.Var number) = 0
part_count (operators.Step axis asks number) = 0
part_count operator = arity operator

-- what is bound to an item of a typed part, and to the position of the item
abbrev pub item_type_bound : (variable position : ℕ) → TypedExpression → Types
item_type_bound variable position t = (variable, prime_of (annotation_of t)) ∷ position_bound position (atomic Integer)

-- so many last parts, in order, and those below them; none where a part is missing
abbrev pub last_parts : ℕ → (below : List TypedExpression) → (parts : Parts SequenceType) → (Parts SequenceType → List TypedExpression → Awaited) → Awaited
last_parts zero below parts next = next parts below
last_parts (suc n) [] parts next = None
last_parts (suc n) (t ∷ below) parts next = last_parts n below (a_part t parts) next

-- the expression of an operator, made of typed parts, and what follows it
abbrev pub finished : SchemaSet → (place outer : Place) → Operator → Types → (TypedExpression → List TypedExpression → Awaited) → Parts SequenceType → List TypedExpression → Awaited
finished schemas place outer operator types next parts below =
    then_typed (concluded place outer operator parts (ruling schemas operator (each_of annotation_of parts) types)) (λ t. next t below)

-- expressions that are typed in order, each on top of the parts
abbrev pub typed_in_order : SchemaSet → List CoreExpression → Types → (List TypedExpression → Awaited) → (parts : List TypedExpression) → Awaited
typed_in_order schemas [] types next parts = next parts
typed_in_order schemas (e ∷ es) types next parts = then_typed (judged schemas e types) (λ t. typed_in_order schemas es types next (t ∷ parts))

-- the tasks of a clause of a block: to type its part, and to bind what it binds
abbrev pub clause_tasks : Clause (Unit {0}) → List Task
clause_tasks (clauses.For binder position source) = Infer source ∷ BindItem binder.variable position ∷ []
clause_tasks (clauses.Let binder value) = Infer value ∷ Bind binder.variable ∷ []
clause_tasks (clauses.Where condition) = Infer condition ∷ []

-- and those of all parts of the block
abbrev pub block_tasks : List (Clause (Unit {0})) → List (SortKey (Unit {0})) → CoreExpression → List Task
block_tasks cs ks body = flat_map clause_tasks cs ++ (map (λ k. Infer (part_of_key k)) ks ++ Infer body ∷ [])

-- to take away what the clauses bind
abbrev pub clause_unbinding : ClauseKind → List Task
clause_unbinding (kinds.For binder zero) = Unbind ∷ []
clause_unbinding (kinds.For binder (suc position)) = Unbind ∷ Unbind ∷ []
clause_unbinding (kinds.Let binder) = Unbind ∷ []
clause_unbinding kinds.Where = []

-- the tasks of declarations, each global with its value first, and what is left to do behind them
abbrev pub tasks_of : List CoreDeclaration → (behind : List Task) → List Task
tasks_of [] behind = behind
tasks_of (Function function ∷ others) behind = OpenFunction function ∷ tasks_of others behind
tasks_of (Global name binder (Some value) ∷ others) behind = Infer value ∷ Declare name binder ∷ tasks_of others behind
tasks_of (Global name binder None ∷ others) behind = External name binder ∷ tasks_of others behind

-- the branches of a switch over an operand of a type, each typed with the variable of its case and put on top of the parts
abbrev pub branches_in_order : SchemaSet → (operand : SequenceType) → List TypeCase → (default : ℕ) → List CoreExpression → Types → (List TypedExpression → Awaited) → (parts : List TypedExpression) → Awaited
branches_in_order schemas operand cases default [] types next parts = next parts
branches_in_order schemas operand cases default (branch ∷ branches) types next parts =
    then_typed (judged schemas branch (branch_types cases default operand [] ++ types)) (λ t. branches_in_order schemas operand (drop 1 cases) default branches types next (t ∷ parts))

-- what is left to do, over the typed parts that are there, the last first, and what is declared so far; none where a part is missing
abbrev pub continued : SchemaSet → List Task → (parts : List TypedExpression) → Types → (declared : List TypedDeclaration) → Awaited
continued schemas [] [] types declared = None
continued schemas [] (t ∷ parts) types declared = Some (typed (record { declarations = declared; body = t }))
continued schemas (Infer e ∷ tasks) parts types declared = then_typed (judged schemas e types) (λ t. continued schemas tasks (t ∷ parts) types declared)
continued schemas (Bind variable ∷ tasks) [] types declared = None
continued schemas (Bind variable ∷ tasks) (t ∷ parts) types declared = continued schemas tasks (t ∷ parts) ((variable, annotation_of t) ∷ types) declared
continued schemas (BindItem variable position ∷ tasks) [] types declared = None
continued schemas (BindItem variable position ∷ tasks) (t ∷ parts) types declared = continued schemas tasks (t ∷ parts) (item_type_bound variable position t ++ types) declared
continued schemas (Branches cases default branches ∷ tasks) [] types declared = None
continued schemas (Branches cases default branches ∷ tasks) (t ∷ parts) types declared =
    branches_in_order schemas (annotation_of t) cases default branches types (λ more. continued schemas tasks more types declared) (t ∷ parts)
continued schemas (NextBranch operand left default branches ∷ tasks) parts types declared =
    branches_in_order schemas operand left default branches types (λ more. continued schemas tasks more types declared) parts
continued schemas (Unbind ∷ tasks) parts types declared = continued schemas tasks parts (drop 1 types) declared
continued schemas (Finish place outer operator ∷ tasks) parts types declared =
    last_parts (part_count operator) parts no_parts (finished schemas place outer operator types (λ t below. continued schemas tasks (t ∷ below) types declared))
continued schemas (FinishCall place outer function count ∷ tasks) parts types declared =
    last_parts count parts no_parts (finished schemas place outer (operators.Call function) types (λ t below. continued schemas tasks (t ∷ below) types declared))
continued schemas (FinishSwitch place outer cases default count ∷ tasks) parts types declared =
    last_parts (suc count) parts no_parts (finished schemas place outer (operators.Switch cases default) types (λ t below. continued schemas tasks (t ∷ below) types declared))
continued schemas (OpenFunction function ∷ tasks) parts types declared =
    then_typed (judged schemas function.body (parameter_types function.parameters ++ types))
    (λ t. then_typed (function_with schemas function.place function.name function.parameters function.result t)
    (λ d. continued schemas tasks parts (global_types d ++ types) (declared ++ d ∷ [])))
continued schemas (DeclareFunction place name parameters result ∷ tasks) [] types declared = None
continued schemas (DeclareFunction place name parameters result ∷ tasks) (t ∷ parts) types declared =
    then_typed (function_with schemas place name parameters result t)
    (λ d. continued schemas tasks parts (global_types d ++ drop (length parameters) types) (declared ++ d ∷ []))
continued schemas (Declare name binder ∷ tasks) [] types declared = None
continued schemas (Declare name binder ∷ tasks) (t ∷ parts) types declared =
    then_typed (declared_as schemas name binder t) (λ d. continued schemas tasks parts (global_types d ++ types) (declared ++ d ∷ []))
continued schemas (External name binder ∷ tasks) parts types declared =
    continued schemas tasks parts (external_types binder binder.kind ++ types) (declared ++ Global name binder None ∷ [])

abbrev pub judgement_of : SchemaSet → Typing → Awaited
judgement_of schemas typing = continued schemas typing.tasks typing.parts typing.scope typing.declared.items

-- with one more task that comes first
abbrev pub judgement_with : SchemaSet → Task → Typing → Awaited
judgement_with schemas task typing = continued schemas (task ∷ typing.tasks) typing.parts typing.scope typing.declared.items

-- a typing that fails so is rejected with this place and code; want of memory says nothing
abbrev pub EndsRejected : InferError → Awaited → Type 0
EndsRejected (errors.NoType place code) judgement = judgement ≡ Some (rejected place code)
EndsRejected errors.Memory judgement = Unit {0}
