-- Typed trees: each operator has the type of its rule, which is to say that they are judged to have their types.
use Rattle.std.proofs.Common.{◌≡◌, List, [], ◌∷◌, ◌++◌, refl, ◌∙◌, ap, subst}
use Rattle.gx_base.specs.declared.place.Place.{Place}
use Rattle.gx_types.specs.SchemaSet.{SchemaSet}
use Rattle.gx_types.specs.SequenceType.{SequenceType}
use Rattle.gx_core.specs.declared.operator.Operator.{Operator}
use Rattle.gx_core.specs.Expression.{CoreExpression, At, Parts, no_parts, a_part, each_of, annotation_of, plain, plain_parts}
use Rattle.gx_core.specs.Bindings.{Types, types_bound}
use Rattle.gx_core.specs.Soundness.{TypedExpression}
use Rattle.gx_static.specs.Rule.{Ruling, has_type, has_none, ruling}
use Rattle.gx_static.specs.Judgement.{Judgement, Judged, typed, with_typed, concluded, judged, parts_judged}
use Rattle.gx_static.proofs.SoundTyping.{IfTyped, made_holds}

abbrev mutual
  pub HasItsTypes : SchemaSet → TypedExpression → Types → Type 0
  HasItsTypes s (At place outer t operator parts) types =
      (ruling s operator (each_of annotation_of parts) types ≡ has_type t) × PartsHaveTheirTypes s operator [] parts types

  pub PartsHaveTheirTypes : SchemaSet → Operator → (before : List SequenceType) → Parts SequenceType → Types → Type 0
  PartsHaveTheirTypes s operator before no_parts types = Unit {0}
  PartsHaveTheirTypes s operator before (a_part first others) types =
      HasItsTypes s first (types_bound operator before ++ types) × PartsHaveTheirTypes s operator (before ++ annotation_of first ∷ []) others types

-- ---- what is judged has its types

concluded_has : (s : SchemaSet) (place outer : Place) (operator : Operator) (types : Types) (ts : Parts SequenceType) (r : Ruling) → ruling s operator (each_of annotation_of ts) types ≡ r
    → PartsHaveTheirTypes s operator [] ts types → IfTyped (λ t. HasItsTypes s t types) (concluded place outer operator ts r)
concluded_has s place outer operator types ts (has_type t) e h = (e, h)
concluded_has s place outer operator types ts (has_none code part) e h = tt

mutual
  pub expression_has : (s : SchemaSet) (e : CoreExpression) (types : Types) → IfTyped (λ t. HasItsTypes s t types) (judged s e types)
  expression_has s (At place outer tt operator parts) types =
      made_holds (parts_judged s operator [] parts types) (λ ts. concluded place outer operator ts (ruling s operator (each_of annotation_of ts) types))
      (λ ts. PartsHaveTheirTypes s operator [] ts types) (λ t. HasItsTypes s t types) (parts_have s operator [] parts types)
      (λ ts h. concluded_has s place outer operator types ts (ruling s operator (each_of annotation_of ts) types) refl h)

  parts_have : (s : SchemaSet) (operator : Operator) (before : List SequenceType) (parts : Parts (Unit {0})) (types : Types)
      → IfTyped (λ ts. PartsHaveTheirTypes s operator before ts types) (parts_judged s operator before parts types)
  parts_have s operator before no_parts types = tt
  parts_have s operator before (a_part first others) types =
      made_holds (judged s first (types_bound operator before ++ types)) (λ t. with_typed (parts_judged s operator (before ++ annotation_of t ∷ []) others types) (λ ts. typed (a_part t ts)))
      (λ t. HasItsTypes s t (types_bound operator before ++ types)) (λ ts. PartsHaveTheirTypes s operator before ts types) (expression_has s first (types_bound operator before ++ types))
      (λ t h. made_holds (parts_judged s operator (before ++ annotation_of t ∷ []) others types) (λ ts. typed (a_part t ts))
      (λ ts. PartsHaveTheirTypes s operator (before ++ annotation_of t ∷ []) ts types) (λ ts. PartsHaveTheirTypes s operator before ts types)
      (parts_have s operator (before ++ annotation_of t ∷ []) others types) (λ ts k. (h, k)))

pub judged_has_types : (s : SchemaSet) (t : TypedExpression) (types : Types) → judged s (plain t) types ≡ typed t → HasItsTypes s t types
judged_has_types s t types j = subst (IfTyped (λ u. HasItsTypes s u types)) j (expression_has s (plain t) types)

-- ---- and is judged to have them

mutual
  pub types_are_judged : (s : SchemaSet) (t : TypedExpression) (types : Types) → HasItsTypes s t types → judged s (plain t) types ≡ typed t
  types_are_judged s (At place outer t operator parts) types h =
      ap (λ (j : Judged (Parts SequenceType)). with_typed j (λ ts. concluded place outer operator ts (ruling s operator (each_of annotation_of ts) types))) (types_of_parts_are_judged s operator [] parts types h.1)
      ∙ ap (λ (r : Ruling). concluded place outer operator parts r) h.0

  types_of_parts_are_judged : (s : SchemaSet) (operator : Operator) (before : List SequenceType) (parts : Parts SequenceType) (types : Types) → PartsHaveTheirTypes s operator before parts types
      → parts_judged s operator before (plain_parts parts) types ≡ typed parts
  types_of_parts_are_judged s operator before no_parts types h = refl
  types_of_parts_are_judged s operator before (a_part t ts) types h =
      ap (λ (j : Judgement). with_typed j (λ u. with_typed (parts_judged s operator (before ++ annotation_of u ∷ []) (plain_parts ts) types) (λ us. typed (a_part u us)))) (types_are_judged s t (types_bound operator before ++ types) h.0)
      ∙ ap (λ (j : Judged (Parts SequenceType)). with_typed j (λ us. typed (a_part t us))) (types_of_parts_are_judged s operator (before ++ annotation_of t ∷ []) ts types h.1)
