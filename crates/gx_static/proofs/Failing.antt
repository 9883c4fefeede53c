-- What is judged to have no type has an expression that fails.
use Rattle.std.proofs.Common.{◌≡◌, ℕ, List, [], ◌∷◌, ◌++◌, Option, inl, inr, refl, subst}
use Rattle.gx_base.specs.declared.place.Place.{Place}
use Rattle.gx_base.specs.declared.code.Code.{Code}
use Rattle.gx_types.specs.SchemaSet.{SchemaSet}
use Rattle.gx_types.specs.SequenceType.{SequenceType}
use Rattle.gx_core.specs.declared.operator.Operator.{Operator}
use Rattle.gx_core.specs.Expression.{CoreExpression, At, Parts, no_parts, a_part, each_of, annotation_of, outer_of}
use Rattle.gx_core.specs.Bindings.{Types, types_bound}
use Rattle.gx_static.specs.Rule.{Ruling, has_type, has_none, ruling}
use Rattle.gx_static.specs.Judgement.{Judged, typed, rejected, with_typed, code_place, own_place, part_places, concluded, judged, parts_judged}
use Rattle.gx_static.specs.Failure.{FailsFirst, PartFailsFirst}
use Rattle.gx_static.specs.Laws.{RejectionNamesFailure}

-- what holds of the place and the code, if there is a rejection
abbrev pub IfRejected : {R : Type 0} → (Place → Code → Type 0) → Judged R → Type 0
IfRejected Fact (typed result) = Unit {0}
IfRejected Fact (rejected place code) = Fact place code

-- something that fails, and what fails behind it
pub made_fails : {R S : Type 0} (j : Judged R) (next : R → Judged S) (P Q : Place → Code → Type 0) → IfRejected P j
    → ((place : Place) (code : Code) → P place code → Q place code) → ((x : R) → j ≡ typed x → IfRejected Q (next x)) → IfRejected Q (with_typed j next)
made_fails (typed x) next P Q h f g = g x refl
made_fails (rejected place code) next P Q h f g = f place code h

-- the expression itself
pub own_fails : (own outer : Place) (operator : Operator) (ts : Parts SequenceType) (r : Ruling) (Q : Place → Code → Type 0)
    → ((code : Code) (part : Option ℕ) → r ≡ has_none code part → Q (code_place (own_place operator own) (part_places operator (each_of outer_of ts)) part) code) → IfRejected Q (concluded own outer operator ts r)
own_fails own outer operator ts (has_type t) Q f = tt
own_fails own outer operator ts (has_none code part) Q f = f code part refl

mutual
  pub judged_fails : (s : SchemaSet) (e : CoreExpression) (types : Types) → IfRejected (FailsFirst s e types) (judged s e types)
  judged_fails s (At own outer tt operator parts) types =
      made_fails (parts_judged s operator [] parts types) (λ ts. concluded own outer operator ts (ruling s operator (each_of annotation_of ts) types))
      (PartFailsFirst s operator [] parts types) (FailsFirst s (At own outer tt operator parts) types) (parts_fail s operator [] parts types) (λ place code h. inr h)
      (λ ts e. own_fails own outer operator ts (ruling s operator (each_of annotation_of ts) types) (FailsFirst s (At own outer tt operator parts) types)
      (λ code part r. inl (record { typing = ts; part = part; judged_parts = e; ruled = r; there = refl })))

  parts_fail : (s : SchemaSet) (operator : Operator) (before : List SequenceType) (parts : Parts (Unit {0})) (types : Types) → IfRejected (PartFailsFirst s operator before parts types) (parts_judged s operator before parts types)
  parts_fail s operator before no_parts types = tt
  parts_fail s operator before (a_part first others) types =
      made_fails (judged s first (types_bound operator before ++ types)) (λ t. with_typed (parts_judged s operator (before ++ annotation_of t ∷ []) others types) (λ ts. typed (a_part t ts)))
      (FailsFirst s first (types_bound operator before ++ types)) (PartFailsFirst s operator before (a_part first others) types) (judged_fails s first (types_bound operator before ++ types)) (λ place code h. inl h)
      (λ t e. made_fails (parts_judged s operator (before ++ annotation_of t ∷ []) others types) (λ ts. typed (a_part t ts))
      (PartFailsFirst s operator (before ++ annotation_of t ∷ []) others types) (PartFailsFirst s operator before (a_part first others) types) (parts_fail s operator (before ++ annotation_of t ∷ []) others types)
      (λ place code h. inr (t, e, h)) (λ ts f. tt))

pub rejection_names_failure : RejectionNamesFailure
rejection_names_failure s e types place code j = subst (IfRejected (FailsFirst s e types)) j (judged_fails s e types)
