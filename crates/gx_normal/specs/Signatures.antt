-- The functions that a query declares, as calls find them (XQuery 1.0, sections 3.1.5 and 4.15).
use Rattle.std.specs.Prelude.{ℕ, suc, ◌+◌, ◌==◌, Bool, List, [], ◌∷◌, map, length, Option, None, Some, if◌then◌else◌}
use Rattle.std.specs.List.{slice_get}
use Rattle.std.specs.Ordering.{on, eq_of_both}
use Rattle.gx_base.specs.declared.name.Name.{Name}
use Rattle.gx_base.specs.declared.place.Place.{Place}
use Rattle.gx_base.specs.Name.{same_name}
use Rattle.gx_types.specs.Choice.{choice_among}
use Rattle.gx_types.specs.SequenceType.{SequenceType}
use Rattle.gx_types.specs.Indicator.{star_of}
use Rattle.gx_typetext.specs.KnownNames.{item_types}
use Rattle.gx_resolved.specs.declared.tree.BoundName.{BoundName}
use Rattle.gx_resolved.specs.declared.tree.Declaration.{Declaration}
use Rattle.gx_resolved.specs.declared.tree.Declaration.TheVariants as declared
use Rattle.gx_resolved.specs.declared.tree.FunctionDeclaration.{FunctionDeclaration}
use Rattle.gx_resolved.specs.NestedMap.{innermost_value}
use Rattle.gx_core.specs.declared.expression.Binder.{Binder}
use Rattle.gx_core.specs.declared.signature.FunctionSignature.{FunctionSignature}
use Rattle.gx_core.specs.declared.operator.Operator.TheVariants as operators
use Rattle.gx_core.specs.Expression.{CoreExpression, all_parts, core_at}
use Rattle.gx_normal.specs.declared.signatures.FunctionKey.{FunctionKey}
use Rattle.gx_normal.specs.declared.signatures.Signatures.{Signatures}
use Rattle.gx_normal.specs.Clauses.{Numbers}
use Rattle.gx_normal.specs.Constructs.{empty_at}

-- two functions have the same name and as many parameters
abbrev pub same_function : FunctionKey → FunctionKey → Bool
same_function = eq_of_both (on (λ k. k.name) same_name) (on (λ k. k.arity) ◌==◌)

-- a parameter or a result without a type is of any items
abbrev pub type_or_items : Option SequenceType → SequenceType
type_or_items None = star_of (choice_among item_types)
type_or_items (Some kind) = kind

-- ---- parameters, numbered from the free number on

abbrev pub parameter_binder : BoundName → ℕ → Binder
parameter_binder parameter number = record { variable = number; place = parameter.place; kind = Some (type_or_items parameter.kind) }

abbrev pub parameter_binders : List BoundName → (free : ℕ) → List Binder
parameter_binders [] free = []
parameter_binders (parameter ∷ others) free = parameter_binder parameter free ∷ parameter_binders others (free + 1)

-- the numbers in scope inside of them
abbrev pub inside_parameters : List BoundName → (free : ℕ) → Numbers → Numbers
inside_parameters [] free numbers = numbers
inside_parameters (parameter ∷ others) free numbers = inside_parameters others (free + 1) ((parameter.place, free) ∷ numbers)

-- ---- signatures

abbrev pub signature_written : (number : ℕ) → FunctionDeclaration → FunctionSignature
signature_written number function = record {
  number = number;
  name = function.name;
  parameters = map (λ (parameter : BoundName). type_or_items parameter.kind) function.parameters;
  result = type_or_items function.result;
}

-- those of declarations, numbered from this number on
abbrev pub signatures_written : (number : ℕ) → List Declaration → List FunctionSignature
signatures_written number [] = []
signatures_written number (declared.Function function ∷ others) = signature_written number function ∷ signatures_written (suc number) others
signatures_written number (declared.Global global ∷ others) = signatures_written number others
signatures_written number (declared.External external ∷ others) = signatures_written number others

abbrev pub function_key : FunctionDeclaration → FunctionKey
function_key function = record { name = function.name; arity = length function.parameters }

-- the number of each function, the last one first, behind those that are there
abbrev pub numbers_written : (number : ℕ) → List Declaration → List (FunctionKey × ℕ) → List (FunctionKey × ℕ)
numbers_written number [] there = there
numbers_written number (declared.Function function ∷ others) there = numbers_written (suc number) others ((function_key function, number) ∷ there)
numbers_written number (declared.Global global ∷ others) there = numbers_written number others there
numbers_written number (declared.External external ∷ others) there = numbers_written number others there

abbrev pub signatures_of : List Declaration → Signatures
signatures_of declarations = record { numbers = numbers_written 0 declarations []; list = signatures_written 0 declarations }

-- ---- calls

abbrev pub of_arguments : (count : ℕ) → Option FunctionSignature → Option FunctionSignature
of_arguments count None = None
of_arguments count (Some signature) = if length signature.parameters == count then Some signature else None

abbrev pub numbered_signature : List FunctionSignature → (count : ℕ) → Option ℕ → Option FunctionSignature
numbered_signature list count None = None
numbered_signature list count (Some number) = of_arguments count (slice_get list number)

-- the function of this name with so many parameters
abbrev pub signature_called : Signatures → Name → (count : ℕ) → Option FunctionSignature
signature_called signatures name count =
    numbered_signature signatures.list count (innermost_value same_function signatures.numbers (record { name = name; arity = count }))

abbrev pub user_call_at : Place → Option FunctionSignature → (arguments : List CoreExpression) → CoreExpression
user_call_at place None arguments = empty_at place
user_call_at place (Some signature) arguments = core_at place place (operators.User signature (length arguments)) (all_parts arguments)
