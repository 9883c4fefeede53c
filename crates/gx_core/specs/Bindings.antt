-- Variables, by their numbers, and which operators bind them.
use Rattle.std.specs.Prelude.{ℕ, zero, suc, List, [], ◌∷◌, ◌++◌, Option, Some, None, nat_eq, if◌then◌else◌}
use Rattle.gx_base.specs.declared.type_name.Builtin.TheVariants.{Integer}
use Rattle.gx_base.specs.declared.type_name.TypeName.TheVariants.{Builtin}
use Rattle.gx_types.specs.declared.item_type.ItemType.TheVariants.{Atom}
use Rattle.gx_types.specs.SequenceType.{SequenceType, item}
use Rattle.gx_types.specs.Prime.{prime_of}
use Rattle.gx_core.specs.declared.cases.TypeCase.{TypeCase}
use Rattle.gx_core.specs.declared.operator.ClauseKind.{ClauseKind}
use Rattle.gx_core.specs.declared.operator.ClauseKind.TheVariants as kinds
use Rattle.gx_core.specs.declared.operator.Operator.{Operator}
use Rattle.gx_core.specs.declared.operator.Operator.TheVariants as operators

-- what is bound to a variable, the innermost binding first
abbrev pub look_up : {A : Type 0} → List (ℕ × A) → ℕ → Option A
look_up [] number = None
look_up (binding ∷ bindings) number = if nat_eq binding.0 number then Some binding.1 else look_up bindings number

-- the type of each variable in scope, the innermost first
abbrev pub Types : Type 0
Types = List (ℕ × SequenceType)

-- what is bound to the variable of a position, or of a case, whose number is 0 where there is none
abbrev pub position_bound : {A : Type 0} → (position : ℕ) → A → List (ℕ × A)
position_bound zero bound = []
position_bound (suc number) bound = (suc number, bound) ∷ []

-- ---- what an operator binds for its next part, from the types of the parts before that one

-- a switch, from the branches before the next one: the variable of its case, with the type of the case, or that of the default, with the
-- type of the operand
abbrev pub branch_types : List TypeCase → (default : ℕ) → (operand : SequenceType) → (branches : List SequenceType) → Types
branch_types [] default operand branches = position_bound default operand
branch_types (case ∷ cases) default operand [] = position_bound case.variable case.kind
branch_types (case ∷ cases) default operand (branch ∷ branches) = branch_types cases default operand branches

-- one clause of a block, from the type of its part
abbrev pub clause_types_bound : ClauseKind → SequenceType → Types
clause_types_bound (kinds.For binder position) source =
    (binder.variable, prime_of source) ∷ position_bound position (item (Atom (Builtin Integer)))
clause_types_bound (kinds.Let binder) value = (binder.variable, value) ∷ []
clause_types_bound kinds.Where condition = []

-- the clauses of a block that stand before the next part, the innermost first; `bound` is what was bound before them
abbrev pub block_types_bound : List ClauseKind → (before : List SequenceType) → (bound : Types) → Types
block_types_bound [] before bound = bound
block_types_bound (kind ∷ kinds) [] bound = bound
block_types_bound (kind ∷ kinds) (t ∷ before) bound = block_types_bound kinds before (clause_types_bound kind t ++ bound)

-- `for` and a quantifier bind an item of the operand at a time, and `for` its position; a block all that the clauses before the part bind
abbrev pub types_bound : Operator → (before : List SequenceType) → Types
types_bound (operators.For binder position) (source ∷ []) =
    (binder.variable, prime_of source) ∷ position_bound position (item (Atom (Builtin Integer)))
types_bound (operators.SomeIn binder) (source ∷ []) = (binder.variable, prime_of source) ∷ []
types_bound (operators.EveryIn binder) (source ∷ []) = (binder.variable, prime_of source) ∷ []
types_bound (operators.Let binder) (value ∷ []) = (binder.variable, value) ∷ []
types_bound (operators.Switch cases default) (operand ∷ branches) = branch_types cases default operand branches
types_bound (operators.Block clauses keys) before = block_types_bound clauses before []
types_bound _ _ = []

-- ---- the numbers of these variables, for which only the count of the parts before matters

abbrev pub position_numbers : (position : ℕ) → List ℕ
position_numbers zero = []
position_numbers (suc number) = suc number ∷ []

abbrev pub branch_numbers : List TypeCase → (default : ℕ) → (branches : List (Unit {0})) → List ℕ
branch_numbers [] default branches = position_numbers default
branch_numbers (case ∷ cases) default [] = position_numbers case.variable
branch_numbers (case ∷ cases) default (branch ∷ branches) = branch_numbers cases default branches

abbrev pub clause_numbers_bound : ClauseKind → List ℕ
clause_numbers_bound (kinds.For binder position) = binder.variable ∷ position_numbers position
clause_numbers_bound (kinds.Let binder) = binder.variable ∷ []
clause_numbers_bound kinds.Where = []

abbrev pub block_numbers_bound : List ClauseKind → (before : List (Unit {0})) → (bound : List ℕ) → List ℕ
block_numbers_bound [] before bound = bound
block_numbers_bound (kind ∷ kinds) [] bound = bound
block_numbers_bound (kind ∷ kinds) (one ∷ before) bound = block_numbers_bound kinds before (clause_numbers_bound kind ++ bound)

abbrev pub numbers_bound_by : Operator → (before : List (Unit {0})) → List ℕ
numbers_bound_by (operators.For binder position) (source ∷ []) = binder.variable ∷ position_numbers position
numbers_bound_by (operators.SomeIn binder) (source ∷ []) = binder.variable ∷ []
numbers_bound_by (operators.EveryIn binder) (source ∷ []) = binder.variable ∷ []
numbers_bound_by (operators.Let binder) (value ∷ []) = binder.variable ∷ []
numbers_bound_by (operators.Switch cases default) (operand ∷ branches) = branch_numbers cases default branches
numbers_bound_by (operators.Block clauses keys) before = block_numbers_bound clauses before []
numbers_bound_by _ _ = []

-- ---- those of them that are not bound for the part before already

-- in a block: what the clause of that part binds
abbrev pub block_numbers_new : List ClauseKind → (before : List (Unit {0})) → List ℕ
block_numbers_new [] before = []
block_numbers_new (kind ∷ kinds) [] = []
block_numbers_new (kind ∷ kinds) (one ∷ []) = clause_numbers_bound kind
block_numbers_new (kind ∷ kinds) (one ∷ another ∷ before) = block_numbers_new kinds (another ∷ before)

abbrev pub numbers_new_in : Operator → (before : List (Unit {0})) → List ℕ
numbers_new_in (operators.Block clauses keys) before = block_numbers_new clauses before
numbers_new_in operator before = numbers_bound_by operator before
