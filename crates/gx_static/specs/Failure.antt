-- Which expression fails: all of its parts have types, and its own rule gives none (XQuery 1.0 and XPath 2.0 Formal Semantics, section 4).
use Rattle.std.specs.Prelude.{◌≡◌, ℕ, List, [], ◌∷◌, ◌++◌, Option, ◌⊎◌}
use Rattle.gx_base.specs.declared.place.Place.{Place}
use Rattle.gx_base.specs.declared.code.Code.{Code}
use Rattle.gx_types.specs.SchemaSet.{SchemaSet}
use Rattle.gx_types.specs.SequenceType.{SequenceType}
use Rattle.gx_core.specs.declared.operator.Operator.{Operator}
use Rattle.gx_core.specs.Expression.{CoreExpression, At, Parts, no_parts, a_part, each_of, annotation_of, outer_of}
use Rattle.gx_core.specs.Bindings.{Types, types_bound}
use Rattle.gx_core.specs.Soundness.{TypedExpression}
use Rattle.gx_static.specs.Rule.{has_none, ruling}
use Rattle.gx_static.specs.Judgement.{typed, code_place, own_place, part_places, judged, parts_judged}

-- an expression fails itself: its parts have types, its rule gives none, and this is the place of the code
pub record FailsItself (schemas : SchemaSet) (own : Place) (operator : Operator) (parts : Parts (Unit {0})) (types : Types) (place : Place) (code : Code) : Type 0 where
  pub typing : Parts SequenceType
  pub part : Option ℕ
  pub judged_parts : parts_judged schemas operator [] parts types ≡ typed typing
  pub ruled : ruling schemas operator (each_of annotation_of typing) types ≡ has_none code part
  pub there : place ≡ code_place (own_place operator own) (part_places operator (each_of outer_of typing)) part

-- the first expression that fails, where parts come before the expression and left parts before right parts: all that come before it have types
abbrev mutual
  pub FailsFirst : SchemaSet → CoreExpression → Types → Place → Code → Type 0
  FailsFirst schemas (At own outer annotation operator parts) types place code =
      FailsItself schemas own operator parts types place code ⊎ PartFailsFirst schemas operator [] parts types place code

  pub PartFailsFirst : SchemaSet → Operator → (before : List SequenceType) → Parts (Unit {0}) → Types → Place → Code → Type 0
  PartFailsFirst schemas operator before no_parts types place code = ⊥
  PartFailsFirst schemas operator before (a_part first others) types place code =
      FailsFirst schemas first (types_bound operator before ++ types) place code
      ⊎ ((t : TypedExpression) × (judged schemas first (types_bound operator before ++ types) ≡ typed t)
      × PartFailsFirst schemas operator (before ++ annotation_of t ∷ []) others types place code)
