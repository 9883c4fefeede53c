-- Typing gives each expression a normal type.
use Rattle.std.proofs.Common.{ℕ, zero, suc, Bool, true, false, ◌&&◌, not, List, [], ◌∷◌, ◌++◌, Option, None, Some, nat_eq, subst, if◌then◌else◌}
use Rattle.gx_base.specs.declared.place.Place.{Place}
use Rattle.gx_base.specs.declared.code.Code.TheVariants.{XPST0005}
use Rattle.gx_types.specs.SchemaSet.{SchemaSet}
use Rattle.gx_types.specs.SchemaInvariant.{HoldsOfEach, IsSchemaSet}
use Rattle.gx_types.specs.SameType.{same_type}
use Rattle.gx_types.specs.SequenceType.{SequenceType, never, nothing}
use Rattle.gx_types.specs.declared.step.Axis.{Axis}
use Rattle.gx_types.specs.declared.step.Test.{Test}
use Rattle.gx_core.specs.declared.operator.ClauseKind.{ClauseKind}
use Rattle.gx_core.specs.declared.operator.ClauseKind.TheVariants as kinds
use Rattle.gx_core.specs.declared.operator.Operator.{Operator}
use Rattle.gx_core.specs.declared.operator.Operator.TheVariants as operators
use Rattle.gx_core.specs.declared.cases.TypeCase.{TypeCase}
use Rattle.gx_core.specs.Bindings.{Types, look_up, types_bound, position_bound, branch_types, clause_types_bound, block_types_bound}
use Rattle.gx_core.specs.Expression.{CoreExpression, At, Parts, no_parts, a_part, each_of, annotation_of}
use Rattle.gx_core.specs.Soundness.{TypedExpression}
use Rattle.gx_static.specs.Rule.{Ruling, has_type, has_none, rule, variable_ruling, reaching, step_ruling, ruling}
use Rattle.gx_static.specs.Judgement.{Judged, typed, rejected, with_typed, judged, parts_judged, concluded}
use Rattle.gx_static.specs.NormalTypes.{IsNormalType, GivesNormalType, CastsToAtomicType, HaveNormalTypes, CastsToAtomicTypes, PartsCastToAtomicTypes, IsNormalThroughout, AreNormalThroughout, TypingGivesNormalTypes}
use Rattle.gx_static.proofs.AtomicTypes.{integer_is_atomic}
use Rattle.gx_static.proofs.NormalTypes.{prime_is_normal}
use Rattle.gx_type_laws.proofs.Items.{both_hold}
use Rattle.gx_static.proofs.NormalRules.{rules_give_normal_types}

-- ---- what variables have

-- the type that is found, if there is one
abbrev IsNormalIfFound : SchemaSet → Option SequenceType → Type 0
IsNormalIfFound s None = Unit {0}
IsNormalIfFound s (Some t) = IsNormalType s t

found_or : (s : SchemaSet) (here : Bool) (t : SequenceType) (o : Option SequenceType) → IsNormalType s t → IsNormalIfFound s o → IsNormalIfFound s (if here then Some t else o)
found_or s true t o n m = n
found_or s false t o n m = m

found_is_normal : (s : SchemaSet) (types : Types) (number : ℕ) → HaveNormalTypes s types → IsNormalIfFound s (look_up types number)
found_is_normal s [] number n = tt
found_is_normal s (binding ∷ types) number n = found_or s (nat_eq binding.0 number) binding.1 (look_up types number) n.0 (found_is_normal s types number n.1)

clause_bound_are_normal : (s : SchemaSet) (kind : ClauseKind) (t : SequenceType) (bound : Types) → IsNormalType s t → HaveNormalTypes s bound → HaveNormalTypes s (clause_types_bound kind t ++ bound)
clause_bound_are_normal s (kinds.For binder zero) source bound n b = (prime_is_normal s source n, b)
clause_bound_are_normal s (kinds.For binder (suc position)) source bound n b = (prime_is_normal s source n, (integer_is_atomic s, b))
clause_bound_are_normal s (kinds.Let binder) value bound n b = (n, b)
clause_bound_are_normal s kinds.Where condition bound n b = b

block_bound_are_normal : (s : SchemaSet) (clauses : List ClauseKind) (before : List SequenceType) (bound : Types) → HoldsOfEach (IsNormalType s) before → HaveNormalTypes s bound
    → HaveNormalTypes s (block_types_bound clauses before bound)
block_bound_are_normal s [] before bound n b = b
block_bound_are_normal s (kind ∷ clauses) [] bound n b = b
block_bound_are_normal s (kind ∷ clauses) (t ∷ before) bound n b = block_bound_are_normal s clauses before (clause_types_bound kind t ++ bound) n.1 (clause_bound_are_normal s kind t bound n.0 b)

one_bound_is_normal : (s : SchemaSet) (number : ℕ) (t : SequenceType) → IsNormalType s t → HaveNormalTypes s (position_bound number t)
one_bound_is_normal s zero t n = tt
one_bound_is_normal s (suc number) t n = (n, tt)

branch_is_normal : (s : SchemaSet) (cases : List TypeCase) (default : ℕ) (operand : SequenceType) (branches : List SequenceType) → HoldsOfEach (λ (c : TypeCase). IsNormalType s c.kind) cases → IsNormalType s operand
    → HaveNormalTypes s (branch_types cases default operand branches)
branch_is_normal s [] default operand branches c n = one_bound_is_normal s default operand n
branch_is_normal s (t ∷ cases) default operand [] c n = one_bound_is_normal s t.variable t.kind c.0
branch_is_normal s (t ∷ cases) default operand (branch ∷ branches) c n = branch_is_normal s cases default operand branches c.1 n

pub bound_are_normal : (s : SchemaSet) (operator : Operator) (before : List SequenceType) → CastsToAtomicType s operator → HoldsOfEach (IsNormalType s) before → HaveNormalTypes s (types_bound operator before)
bound_are_normal s (operators.Block clauses keys) before c n = block_bound_are_normal s clauses before [] n tt
bound_are_normal s (operators.For binder zero) (source ∷ []) c n = (prime_is_normal s source n.0, tt)
bound_are_normal s (operators.For binder (suc position)) (source ∷ []) c n = (prime_is_normal s source n.0, (integer_is_atomic s, tt))
bound_are_normal s (operators.SomeIn binder) (source ∷ []) c n = (prime_is_normal s source n.0, tt)
bound_are_normal s (operators.EveryIn binder) (source ∷ []) c n = (prime_is_normal s source n.0, tt)
bound_are_normal s (operators.Let binder) (value ∷ []) c n = (n.0, tt)
bound_are_normal s (operators.Switch cases default) (operand ∷ branches) c n = branch_is_normal s cases default operand branches c n.0
bound_are_normal s _ _ c n = tt

-- ---- rulings

variable_is_normal : (s : SchemaSet) (number : ℕ) (o : Option SequenceType) → IsNormalIfFound s o → GivesNormalType s (variable_ruling s number o)
variable_is_normal s number None n = tt
variable_is_normal s number (Some t) n = n

unless_empty : (s : SchemaSet) (is_empty : Bool) (t : SequenceType) → IsNormalType s t → GivesNormalType s (if is_empty then has_none XPST0005 None else has_type t)
unless_empty s true t n = tt
unless_empty s false t n = n

reached_is_normal : (s : SchemaSet) (context : SequenceType) (given : Ruling) → GivesNormalType s given → GivesNormalType s (reaching context given)
reached_is_normal s context (has_type t) n = unless_empty s (same_type nothing t && not (same_type never context)) t n
reached_is_normal s context (has_none code part) n = tt

step_ruling_is_normal : (s : SchemaSet) (axis : Axis) (asks : Test) (number : ℕ) (o : Option SequenceType) → IsSchemaSet s → IsNormalIfFound s o → GivesNormalType s (step_ruling s axis asks number o)
step_ruling_is_normal s axis asks number None is n = tt
step_ruling_is_normal s axis asks number (Some context) is n =
    reached_is_normal s context (rule s (operators.Step axis asks number) (context ∷ [])) (rules_give_normal_types s (operators.Step axis asks number) (context ∷ []) is tt (n, tt))

ruling_is_normal : (s : SchemaSet) (operator : Operator) (parts : List SequenceType) (types : Types) → IsSchemaSet s → CastsToAtomicType s operator → HaveNormalTypes s types → HoldsOfEach (IsNormalType s) parts
    → GivesNormalType s (ruling s operator parts types)
ruling_is_normal s (operators.Var number) [] types is c n p = variable_is_normal s number (look_up types number) (found_is_normal s types number n)
ruling_is_normal s (operators.Var number) (part ∷ parts) types is c n p = tt
ruling_is_normal s (operators.Step axis asks number) [] types is c n p = step_ruling_is_normal s axis asks number (look_up types number) is (found_is_normal s types number n)
ruling_is_normal s (operators.Step axis asks number) (part ∷ parts) types is c n p = tt
ruling_is_normal s operator parts types is c n p = rules_give_normal_types s operator parts is c p

-- ---- expressions

abbrev pub IfTyped : {R : Type 0} → (R → Type 0) → Judged R → Type 0
IfTyped P (typed result) = P result
IfTyped P (rejected place code) = Unit {0}

pub made_typed : {R S : Type 0} (P : R → Type 0) (Q : S → Type 0) (j : Judged R) (next : R → Judged S) → IfTyped P j → ((x : R) → P x → IfTyped Q (next x)) → IfTyped Q (with_typed j next)
made_typed P Q (typed result) next h f = f result h
made_typed P Q (rejected place code) next h f = tt

pub annotation_is_normal : (s : SchemaSet) (t : TypedExpression) → IsNormalThroughout s t → IsNormalType s (annotation_of t)
annotation_is_normal s (At place outer type operator parts) n = n.0

pub annotations_are_normal : (s : SchemaSet) (ts : Parts SequenceType) → AreNormalThroughout s ts → HoldsOfEach (IsNormalType s) (each_of annotation_of ts)
annotations_are_normal s no_parts n = tt
annotations_are_normal s (a_part first others) n = (annotation_is_normal s first n.0, annotations_are_normal s others n.1)

concluded_is_normal : (s : SchemaSet) (place outer : Place) (operator : Operator) (ts : Parts SequenceType) (given : Ruling) → AreNormalThroughout s ts → GivesNormalType s given
    → IfTyped (IsNormalThroughout s) (concluded place outer operator ts given)
concluded_is_normal s place outer operator ts (has_type t) n g = (g, n)
concluded_is_normal s place outer operator ts (has_none code part) n g = tt

mutual
  pub judged_is_normal : (s : SchemaSet) → IsSchemaSet s → (e : CoreExpression) (types : Types) → CastsToAtomicTypes s e → HaveNormalTypes s types → IfTyped (IsNormalThroughout s) (judged s e types)
  judged_is_normal s is (At place outer tt operator parts) types c n =
      made_typed (AreNormalThroughout s) (IsNormalThroughout s) (parts_judged s operator [] parts types) (λ ts. concluded place outer operator ts (ruling s operator (each_of annotation_of ts) types))
      (parts_are_normal s is operator [] parts types c.0 c.1 n tt)
      (λ ts h. concluded_is_normal s place outer operator ts (ruling s operator (each_of annotation_of ts) types) h (ruling_is_normal s operator (each_of annotation_of ts) types is c.0 n (annotations_are_normal s ts h)))

  pub parts_are_normal : (s : SchemaSet) → IsSchemaSet s → (operator : Operator) (before : List SequenceType) (parts : Parts (Unit {0})) (types : Types) → CastsToAtomicType s operator → PartsCastToAtomicTypes s parts → HaveNormalTypes s types
      → HoldsOfEach (IsNormalType s) before → IfTyped (AreNormalThroughout s) (parts_judged s operator before parts types)
  parts_are_normal s is operator before no_parts types o c n b = tt
  parts_are_normal s is operator before (a_part first others) types o c n b =
      made_typed (IsNormalThroughout s) (AreNormalThroughout s) (judged s first (types_bound operator before ++ types))
      (λ t. with_typed (parts_judged s operator (before ++ annotation_of t ∷ []) others types) (λ ts. typed (a_part t ts)))
      (judged_is_normal s is first (types_bound operator before ++ types) c.0 (both_hold (λ (binding : ℕ × SequenceType). IsNormalType s binding.1) (types_bound operator before) types (bound_are_normal s operator before o b) n))
      (λ t h. made_typed (AreNormalThroughout s) (AreNormalThroughout s) (parts_judged s operator (before ++ annotation_of t ∷ []) others types) (λ ts. typed (a_part t ts))
      (parts_are_normal s is operator (before ++ annotation_of t ∷ []) others types o c.1 n (both_hold (IsNormalType s) before (annotation_of t ∷ []) b (annotation_is_normal s t h, tt)))
      (λ ts k. (h, k)))

pub typing_gives_normal_types : TypingGivesNormalTypes
typing_gives_normal_types s e types result is c n same = subst (IfTyped (IsNormalThroughout s)) same (judged_is_normal s is e types c n)
