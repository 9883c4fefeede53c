-- The fields of operators, of clauses and of keys that are no expressions.
use Rattle.std.specs.Prelude.{ℕ, Bool, true, false, List, [], ◌∷◌, codes}
use Rattle.std.specs.Fmt.{signed_decimal}
use Rattle.gx_base.specs.declared.type_name.TypeName.{TypeName}
use Rattle.gx_sorting.specs.declared.keys.KeyOrder.{KeyOrder}
use Rattle.gx_core.specs.declared.constructor.Constructor.{Constructor}
use Rattle.gx_core.specs.declared.constructor.Constructor.TheVariants.{Element, Attribute}
use Rattle.gx_core.specs.declared.operator.ClauseKind.{ClauseKind}
use Rattle.gx_core.specs.declared.operator.ClauseKind.TheVariants as clauses
use Rattle.gx_core.specs.declared.operator.Operator.{Operator}
use Rattle.gx_core.specs.declared.operator.Operator.TheVariants as operators
use Rattle.gx_typetext.specs.NameText.{word, name_text, type_name_text}
use Rattle.gx_typetext.specs.TypeText.{type_text}
use Rattle.gx_plantext.specs.NodeTestText.{axis_name, node_test_text}
use Rattle.gx_plantext.specs.TermText.{Fields, number_text}

-- whether an empty operand may be cast
abbrev pub one_or_opt : Bool → List ℕ
one_or_opt true = word (codes "opt")
one_or_opt false = word (codes "one")

-- the type of a cast
abbrev pub target_fields : TypeName → (optional : Bool) → Fields
target_fields kind optional = type_name_text kind ∷ one_or_opt optional ∷ []

-- the name of a constructor of elements or attributes
abbrev pub constructed_fields : Constructor → Fields
constructed_fields (Element name) = name_text name ∷ []
constructed_fields (Attribute name) = name_text name ∷ []
constructed_fields _ = []

-- what an operator has before its parts
abbrev pub fields_before : Operator → Fields
fields_before (operators.Var number) = number_text number ∷ []
fields_before (operators.For binder position) = number_text binder.variable ∷ number_text position ∷ []
fields_before (operators.Let binder) = number_text binder.variable ∷ []
fields_before (operators.SomeIn binder) = number_text binder.variable ∷ []
fields_before (operators.EveryIn binder) = number_text binder.variable ∷ []
fields_before (operators.Step axis test number) = word (axis_name axis) ∷ node_test_text test ∷ number_text number ∷ []
fields_before (operators.Construct constructor count) = constructed_fields constructor
fields_before (operators.User signature count) = name_text signature.name ∷ []
fields_before _ = []

-- what it has behind them
abbrev pub fields_behind : Operator → Fields
fields_behind (operators.Cast kind optional) = target_fields kind optional
fields_behind (operators.Castable kind optional) = target_fields kind optional
fields_behind (operators.Treat kind) = type_text kind ∷ []
fields_behind (operators.Nth number reverse) = word (signed_decimal number) ∷ []
fields_behind _ = []

-- what a clause of a block has before its part
abbrev pub clause_fields : ClauseKind → Fields
clause_fields (clauses.For binder position) = number_text binder.variable ∷ number_text position ∷ []
clause_fields (clauses.Let binder) = number_text binder.variable ∷ []
clause_fields clauses.Where = []

-- how a key orders: its direction, and where an empty one stands
abbrev pub direction_text : (descending : Bool) → List ℕ
direction_text true = word (codes "descending")
direction_text false = word (codes "ascending")

abbrev pub emptiness_text : (greatest : Bool) → List ℕ
emptiness_text true = word (codes "greatest")
emptiness_text false = word (codes "least")

abbrev pub order_fields : KeyOrder → Fields
order_fields order = direction_text order.descending ∷ emptiness_text order.greatest ∷ []
