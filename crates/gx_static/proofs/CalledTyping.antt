-- The functions that an expression calls, and the variables that it names, are those that it calls and names without its types.
use Rattle.std.proofs.Common.{◌≡◌, ℕ, Bool, ◌&&◌, ◌||◌, List, [], ◌∷◌, ◌++◌, refl, sym, ap, subst}
use Rattle.std.specs.Prelude.{not}
use Rattle.gx_types.specs.SequenceType.{SequenceType}
use Rattle.gx_core.specs.declared.signature.FunctionSignature.{FunctionSignature}
use Rattle.gx_core.specs.Expression.{CoreExpression, At, Parts, no_parts, a_part, plain, plain_parts}
use Rattle.gx_core.specs.declared.operator.Operator.{Operator}
use Rattle.gx_core.specs.Bindings.{Types, numbers_bound_by}
use Rattle.gx_core.specs.FreeVariables.{names_variable, is_free_in, is_free_in_parts}
use Rattle.gx_core.specs.Invariant.{is_among}
use Rattle.gx_core.specs.CalledFunctions.{AllCalls, AllCallsInParts}
use Rattle.gx_core.specs.Soundness.{TypedExpression, Setting, KeepsItsType, IsSound}

pub keeps_its_type : (setting : Setting) (e : TypedExpression) (types : Types) → IsSound setting e types → KeepsItsType setting e types
keeps_its_type setting (At place outer t operator parts) types h = h.0

mutual
  pub with_types : (known : List FunctionSignature) (t : TypedExpression) → AllCalls known (plain t) → AllCalls known t
  with_types known (At place outer kind operator parts) h = (h.0, parts_with_types known parts h.1)

  parts_with_types : (known : List FunctionSignature) (parts : Parts SequenceType) → AllCallsInParts known (plain_parts parts) → AllCallsInParts known parts
  parts_with_types known no_parts h = tt
  parts_with_types known (a_part first others) h = (with_types known first h.0, parts_with_types known others h.1)

pub calls_with_types : (known : List FunctionSignature) (t : TypedExpression) (e : CoreExpression) → plain t ≡ e → AllCalls known e → AllCalls known t
calls_with_types known t e same h = with_types known t (subst (λ (c : CoreExpression). AllCalls known c) (sym same) h)

mutual
  pub without_types : (known : List FunctionSignature) (t : TypedExpression) → AllCalls known t → AllCalls known (plain t)
  without_types known (At place outer kind operator parts) h = (h.0, parts_without_types known parts h.1)

  parts_without_types : (known : List FunctionSignature) (parts : Parts SequenceType) → AllCallsInParts known parts → AllCallsInParts known (plain_parts parts)
  parts_without_types known no_parts h = tt
  parts_without_types known (a_part first others) h = (without_types known first h.0, parts_without_types known others h.1)

-- the variables that an expression names and does not bind are those that it so names without its types
mutual
  pub free_without_types : (t : TypedExpression) (number : ℕ) → is_free_in (plain t) number ≡ is_free_in t number
  free_without_types (At place outer kind operator parts) number = ap (λ (b : Bool). names_variable operator number || b) (free_in_plain_parts operator [] parts number)

  free_in_plain_parts : (operator : Operator) (before : List (Unit {0})) (parts : Parts SequenceType) (number : ℕ) → is_free_in_parts operator before (plain_parts parts) number ≡ is_free_in_parts operator before parts number
  free_in_plain_parts operator before no_parts number = refl
  free_in_plain_parts operator before (a_part first others) number =
      let here = free_without_types first number in
      let there = free_in_plain_parts operator (before ++ tt ∷ []) others number in
      λ i. (not (is_among (numbers_bound_by operator before) number) && here i) || there i
