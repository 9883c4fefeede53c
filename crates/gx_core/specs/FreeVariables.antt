-- The variables that an expression names and does not bind itself, and the bindings that fit them (XQuery 1.0, section 3.1.2).
use Rattle.std.specs.Prelude.{◌≡◌, ℕ, nat_eq, Bool, true, false, not, ◌&&◌, ◌||◌, List, [], ◌∷◌, ◌++◌, Some}
use Rattle.gx_types.specs.SchemaSet.{SchemaSet}
use Rattle.gx_types.specs.SequenceType.{SequenceType}
use Rattle.gx_model.specs.Forest.{Forest}
use Rattle.gx_core.specs.declared.operator.Operator.{Operator}
use Rattle.gx_core.specs.declared.operator.Operator.TheVariants as operators
use Rattle.gx_core.specs.Expression.{Expression, At, Parts, no_parts, a_part}
use Rattle.gx_core.specs.Bindings.{look_up, Types, numbers_bound_by}
use Rattle.gx_core.specs.Invariant.{is_among}
use Rattle.gx_core.specs.Meaning.{Bindings}
use Rattle.gx_core.specs.Soundness.{IsBoundTo}

-- an operator names the variable with this number
abbrev pub names_variable : Operator → ℕ → Bool
names_variable (operators.Var variable) number = nat_eq variable number
names_variable (operators.Step axis asks variable) number = nat_eq variable number
names_variable _ number = false

-- an expression names it and does not bind it
abbrev mutual
  pub is_free_in : {A : Type 0} → Expression A → ℕ → Bool
  is_free_in (At place outer annotation operator parts) number = names_variable operator number || is_free_in_parts operator [] parts number

  pub is_free_in_parts : {A : Type 0} → Operator → (before : List (Unit {0})) → Parts A → ℕ → Bool
  is_free_in_parts operator before no_parts number = false
  is_free_in_parts operator before (a_part first others) number =
      (not (is_among (numbers_bound_by operator before) number) && is_free_in first number)
      || is_free_in_parts operator (before ++ tt ∷ []) others number

-- each variable that an expression names and does not bind is bound to a value of its type
abbrev pub FitsFree : {A : Type 0} → SchemaSet → Forest → Expression A → Types → Bindings → Type 0
FitsFree schemas forest e types bindings =
    (number : ℕ) (t : SequenceType) → is_free_in e number ≡ true → look_up types number ≡ Some t
    → IsBoundTo schemas forest bindings number t
