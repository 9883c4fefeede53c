-- The functions that an expression calls.
use Rattle.std.specs.Prelude.{◌≡◌, ℕ, zero, suc, List, [], ◌∷◌, map, unwrap_or, length, Contains}
use Rattle.gx_types.specs.SequenceType.{SequenceType, never}
use Rattle.gx_core.specs.declared.expression.Binder.{Binder}
use Rattle.gx_core.specs.declared.expression.DeclaredFunction.{DeclaredFunction}
use Rattle.gx_core.specs.declared.operator.Operator.{Operator}
use Rattle.gx_core.specs.declared.operator.Operator.TheVariants as operators
use Rattle.gx_core.specs.declared.signature.FunctionSignature.{FunctionSignature}
use Rattle.gx_core.specs.Expression.{Expression, At, Parts, no_parts, a_part}

-- the type that is written at a parameter; a parameter without one takes no value
abbrev pub type_of_parameter : Binder → SequenceType
type_of_parameter parameter = unwrap_or parameter.kind never

abbrev pub signature_of : {A : Type 0} → (number : ℕ) → DeclaredFunction A → FunctionSignature
signature_of number function =
    record { number = number; name = function.name; parameters = map type_of_parameter function.parameters; result = function.result }

-- the signatures of functions, numbered from this number on
abbrev pub signatures_from : {A : Type 0} → ℕ → List (DeclaredFunction A) → List FunctionSignature
signatures_from number [] = []
signatures_from number (function ∷ others) = signature_of number function ∷ signatures_from (suc number) others

-- a call of a function is a call of one of these, with all its arguments
abbrev pub IsCallOf : List FunctionSignature → Operator → Type 0
IsCallOf known (operators.User signature count) = Contains known signature × (count ≡ length signature.parameters)
IsCallOf known operator = Unit {0}

-- each call in an expression
abbrev mutual
  pub AllCalls : {A : Type 0} → List FunctionSignature → Expression A → Type 0
  AllCalls known (At place outer annotation operator parts) = IsCallOf known operator × AllCallsInParts known parts

  pub AllCallsInParts : {A : Type 0} → List FunctionSignature → Parts A → Type 0
  AllCallsInParts known no_parts = Unit {0}
  AllCallsInParts known (a_part first others) = AllCalls known first × AllCallsInParts known others
