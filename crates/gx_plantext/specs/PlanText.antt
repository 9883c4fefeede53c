-- How plans are written: each operator as a term.
use Rattle.std.specs.Prelude.{ℕ, true, List, [], ◌∷◌, ◌++◌, map, codes, Some, None}
use Rattle.std.specs.List.{flat_map}
use Rattle.gx_sorting.specs.declared.keys.KeyOrder.{KeyOrder}
use Rattle.gx_core.specs.declared.cases.TypeCase.{TypeCase}
use Rattle.gx_core.specs.declared.expression.Binder.{Binder}
use Rattle.gx_core.specs.declared.expression.DeclaredFunction.{DeclaredFunction}
use Rattle.gx_core.specs.declared.expression.Declaration.{Declaration}
use Rattle.gx_core.specs.declared.expression.Declaration.TheVariants.{Global, Function}
use Rattle.gx_core.specs.declared.operator.ClauseKind.{ClauseKind}
use Rattle.gx_core.specs.declared.operator.Operator.{Operator}
use Rattle.gx_core.specs.declared.operator.Operator.TheVariants as operators
use Rattle.gx_core.specs.Expression.{At, Parts, no_parts, a_part}
use Rattle.gx_plan.specs.declared.plan.Carried.{Carried}
use Rattle.gx_plan.specs.declared.plan.Role.{Role}
use Rattle.gx_plan.specs.declared.plan.Role.TheVariants.{Own, Join, InJoin}
use Rattle.gx_plan.specs.declared.plan.Plan.{Plan}
use Rattle.gx_plan.specs.Plan.{PlanExpression}
use Rattle.gx_typetext.specs.NameText.{word, name_text}
use Rattle.gx_typetext.specs.TypeText.{type_text}
use Rattle.gx_plantext.specs.OperatorNames.{operator_name, clause_name}
use Rattle.gx_plantext.specs.OperatorFields.{fields_before, fields_behind, clause_fields, order_fields}
use Rattle.gx_plantext.specs.LiteralText.{literal_text}
use Rattle.gx_plantext.specs.TermText.{Fields, fields_text, term_text, number_text}

-- ---- terms inside a term, each of which holds the fields of a part

-- a case of a switch, a clause of a block, and one of its keys
abbrev pub case_text : TypeCase → Fields → List ℕ
case_text case branch = term_text (codes "case") (type_text case.kind ∷ number_text case.variable ∷ branch)

abbrev pub clause_text : ClauseKind → Fields → List ℕ
clause_text kind part = term_text (clause_name kind) (clause_fields kind ++ part)

abbrev pub key_text : KeyOrder → Fields → List ℕ
key_text order value = term_text (codes "key") (value ++ order_fields order)

-- those of all parts, each as it is
abbrev pub all_fields : List Fields → Fields
all_fields [] = []
all_fields (part ∷ parts) = part ++ all_fields parts

-- the cases of a switch with their branches, and then the default with its own
abbrev pub branch_fields : List TypeCase → (default : ℕ) → List Fields → Fields
branch_fields [] default parts = number_text default ∷ all_fields parts
branch_fields (case ∷ cases) default [] = []
branch_fields (case ∷ cases) default (part ∷ parts) = case_text case part ∷ branch_fields cases default parts

-- the keys of a block, and then what it returns
abbrev pub key_fields : List KeyOrder → List Fields → Fields
key_fields [] parts = all_fields parts
key_fields (order ∷ orders) [] = []
key_fields (order ∷ orders) (part ∷ parts) = key_text order part ∷ key_fields orders parts

-- its clauses, and then the others
abbrev pub block_fields : List ClauseKind → List KeyOrder → List Fields → Fields
block_fields [] orders parts = key_fields orders parts
block_fields (kind ∷ kinds) orders [] = []
block_fields (kind ∷ kinds) orders (part ∷ parts) = clause_text kind part ∷ block_fields kinds orders parts

-- the fields of the parts of an operator
abbrev pub part_fields : Operator → List Fields → Fields
part_fields (operators.Switch cases default) (operand ∷ branches) = operand ++ branch_fields cases default branches
part_fields (operators.Block kinds orders) parts = block_fields kinds orders parts
part_fields operator parts = all_fields parts

-- ---- terms

-- the number of the variable of a loop
abbrev pub loop_fields : PlanExpression → Fields
loop_fields (At place outer carried (operators.For binder position) parts) = number_text binder.variable ∷ []
loop_fields expression = []

-- those of the variables of a join: of its outer loop, and of the inner one, which is the body of the outer one
abbrev pub join_fields : Operator → Parts Carried → Fields
join_fields (operators.For binder position) (a_part source (a_part body others)) = number_text binder.variable ∷ loop_fields body
join_fields operator parts = []

-- an operator with its fields in parentheses
abbrev pub operator_term : Operator → List Fields → List ℕ
operator_term operator parts = term_text (operator_name operator) (fields_before operator ++ (part_fields operator parts ++ fields_behind operator))

-- a join: its two variables, and then the parts of all its operators
abbrev pub join_term : Operator → Parts Carried → List Fields → List ℕ
join_term operator parts each = term_text (codes "join") (join_fields operator parts ++ part_fields operator each)

-- an operator of its own: a literal stands alone, and so does the name of an operator that has no fields
abbrev pub own_term : Operator → List Fields → List ℕ
own_term (operators.Lit atomic) parts = literal_text atomic.value
own_term operators.Empty parts = word (codes "empty")
own_term operators.NoContext parts = word (codes "nocontext")
own_term operator parts = operator_term operator parts

-- What an operator gives to the term that it stands in. One within a join gives the fields of its parts, and no other.
abbrev pub fields_in_role : Role → Operator → Parts Carried → List Fields → Fields
fields_in_role Own operator parts each = own_term operator each ∷ []
fields_in_role Join operator parts each = join_term operator parts each ∷ []
fields_in_role InJoin operator parts each = part_fields operator each

abbrev mutual
  -- the fields that an expression gives to the term that it stands in
  pub fields_of : PlanExpression → Fields
  fields_of (At place outer carried operator parts) = fields_in_role carried.role operator parts (fields_of_each parts)

  pub fields_of_each : Parts Carried → List Fields
  fields_of_each no_parts = []
  fields_of_each (a_part first others) = fields_of first ∷ fields_of_each others

-- ---- whole plans

abbrev pub parameter_text : Binder → List ℕ
parameter_text binder = number_text binder.variable

abbrev pub global_text : Binder → PlanExpression → List ℕ
global_text binder value = term_text (codes "global") (number_text binder.variable ∷ fields_of value) ++ word (codes "; ")

abbrev pub function_text : DeclaredFunction Carried → List ℕ
function_text function =
    term_text (codes "function") (name_text function.name ∷ map parameter_text function.parameters ++ fields_of function.body) ++ word (codes "; ")

-- an external variable is not written
abbrev pub declaration_text : Declaration Carried → List ℕ
declaration_text (Global name binder None) = []
declaration_text (Global name binder (Some value)) = global_text binder value
declaration_text (Function function) = function_text function

-- the declarations in their order, and then the body
abbrev pub plan_text : Plan → List ℕ
plan_text plan = flat_map declaration_text plan.query.declarations ++ fields_text true (fields_of plan.query.body)
