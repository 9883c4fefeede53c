-- The typed form of a Core expression, or the first expression that has no type (XQuery 1.0 and XPath 2.0 Formal Semantics, section 4).
use Rattle.std.specs.Prelude.{ℕ, List, [], ◌∷◌, ◌++◌, get_or, Option, None, Some}
use Rattle.gx_base.specs.declared.place.Place.{Place}
use Rattle.gx_base.specs.declared.code.Code.{Code}
use Rattle.gx_types.specs.SchemaSet.{SchemaSet}
use Rattle.gx_types.specs.SequenceType.{SequenceType}
use Rattle.gx_core.specs.declared.operator.ClauseKind.{ClauseKind}
use Rattle.gx_core.specs.declared.operator.ClauseKind.TheVariants as kinds
use Rattle.gx_core.specs.declared.operator.Operator.{Operator}
use Rattle.gx_core.specs.declared.operator.Operator.TheVariants as operators
use Rattle.gx_core.specs.Expression.{CoreExpression, At, Parts, no_parts, a_part, each_of, annotation_of, outer_of}
use Rattle.gx_core.specs.Bindings.{Types, types_bound}
use Rattle.gx_core.specs.Soundness.{TypedExpression}
use Rattle.gx_static.specs.Rule.{Ruling, has_type, has_none, ruling}

-- what has types throughout, or the place and the code of the first expression that has none
pub data Judged (R : Type 0) : Type 0 where
  typed : (result : R) → Judged R
  rejected : (place : Place) (code : Code) → Judged R

abbrev pub Judgement : Type 0
Judgement = Judged TypedExpression

-- parts come before the expression, and left parts before right parts
abbrev pub with_typed : {R S : Type 0} → Judged R → (R → Judged S) → Judged S
with_typed (typed result) next = next result
with_typed (rejected place code) next = rejected place code

-- where a code stands: at the operator, or at the part with this number
abbrev pub code_place : Place → List Place → Option ℕ → Place
code_place place parts None = place
code_place place parts (Some number) = get_or parts number place

-- a code of an operator that binds a variable stands at the variable, and one of another operator at the operator
abbrev pub own_place : Operator → Place → Place
own_place (operators.For binder position) place = binder.place
own_place (operators.SomeIn binder) place = binder.place
own_place (operators.EveryIn binder) place = binder.place
own_place (operators.Let binder) place = binder.place
own_place _ place = place

-- where the codes of clauses stand: at the variable that a clause binds, or at the condition of a `where`
abbrev pub clause_places : List ClauseKind → (parts : List Place) → List Place
clause_places [] parts = parts
clause_places (kind ∷ kinds) [] = []
clause_places (kinds.For binder position ∷ others) (part ∷ parts) = binder.place ∷ clause_places others parts
clause_places (kinds.Let binder ∷ others) (part ∷ parts) = binder.place ∷ clause_places others parts
clause_places (kinds.Where ∷ others) (part ∷ parts) = part ∷ clause_places others parts

-- where the codes at parts stand: at the part, or at the clause of a block
abbrev pub part_places : Operator → (parts : List Place) → List Place
part_places (operators.Block clauses keys) parts = clause_places clauses parts
part_places _ parts = parts

-- what the ruling says of an expression with these parts
abbrev pub concluded : (place outer : Place) → Operator → Parts SequenceType → Ruling → Judgement
concluded place outer operator parts (has_type t) = typed (At place outer t operator parts)
concluded place outer operator parts (has_none code part) = rejected (code_place (own_place operator place) (part_places operator (each_of outer_of parts)) part) code

abbrev mutual
  pub judged : SchemaSet → CoreExpression → Types → Judgement
  judged schemas (At place outer annotation operator parts) types =
      with_typed (parts_judged schemas operator [] parts types)
      (λ ts. concluded place outer operator ts (ruling schemas operator (each_of annotation_of ts) types))

  -- the parts of an operator, each under what the operator binds for it
  pub parts_judged : SchemaSet → Operator → (before : List SequenceType) → Parts (Unit {0}) → Types → Judged (Parts SequenceType)
  parts_judged schemas operator before no_parts types = typed no_parts
  parts_judged schemas operator before (a_part first others) types =
      with_typed (judged schemas first (types_bound operator before ++ types))
      (λ t. with_typed (parts_judged schemas operator (before ++ annotation_of t ∷ []) others types) (λ ts. typed (a_part t ts)))
