-- An expression stands where variables have the same types in another order.
use Rattle.std.proofs.Common.{◌≡◌, ℕ, nat_eq, Option, Some, List, [], ◌∷◌, ◌++◌, take, sym, ◌∙◌, ap, if◌then◌else◌}
use Rattle.gx_types.specs.SequenceType.{SequenceType}
use Rattle.gx_model.specs.Forest.{Forest}
use Rattle.gx_core.specs.declared.operator.Operator.{Operator}
use Rattle.gx_core.specs.Bindings.{Types, look_up}
use Rattle.gx_core.specs.Evaluations.{evaluations}
use Rattle.gx_core.specs.Expression.{At, Parts, no_parts, a_part, each_of, annotation_of}
use Rattle.gx_core.specs.Meaning.{Bindings, meanings}
use Rattle.gx_core.specs.Soundness.{TypedExpression, Setting, context_of, Fits, Situation, IsSound, PartsAreSound}
use Rattle.gx_plan.specs.Fitting.{FitsAt, BindsWell, IsWellBound, PartsAreWellBound}
use Rattle.gx_types.specs.SchemaSet.{SchemaSet}
use Rattle.gx_rule_laws.proofs.ReplacedParts.{all_so}

-- the same variables have the same types
abbrev pub SameTypes : Types → Types → Type 0
SameTypes types others = (number : ℕ) → look_up types number ≡ look_up others number

pub fits_so : (s : SchemaSet) (forest : Forest) (types others : Types) (bindings : Bindings) → SameTypes types others → Fits s forest types bindings
    → Fits s forest others bindings
fits_so s forest types others bindings same fits number t e = fits number t (same number ∙ e)

pub same_behind : (front types others : Types) → SameTypes types others → SameTypes (front ++ types) (front ++ others)
same_behind [] types others same number = same number
same_behind (binding ∷ front) types others same number =
    ap (λ (found : Option SequenceType). if nat_eq binding.0 number then Some binding.1 else found) (same_behind front types others same number)

situation_so : (setting : Setting) (types others : Types) → SameTypes types others → Situation setting others → Situation setting types
situation_so setting types others same situation = record {
  bindings = situation.bindings;
  forest = situation.forest;
  honest = situation.honest;
  fits = fits_so setting.schemas situation.forest others types situation.bindings (λ number. sym (same number)) situation.fits;
  calls_keep = situation.calls_keep;
}

binds_so : (setting : Setting) (operator : Operator) (parts : Parts SequenceType) (types others : Types) → SameTypes types others
    → BindsWell setting operator parts types → BindsWell setting operator parts others
binds_so setting operator parts types others same binds situation =
    all_so (FitsAt setting operator (each_of annotation_of parts) types situation.forest) (FitsAt setting operator (each_of annotation_of parts) others situation.forest)
    (evaluations (context_of setting) operator (meanings (context_of setting) parts) situation.bindings situation.forest)
    (λ e fit. record {
      grown = fit.grown;
      honest = fit.honest;
      fits = fits_so setting.schemas e.forest (setting.binders operator (take e.part (each_of annotation_of parts)) ++ types)
          (setting.binders operator (take e.part (each_of annotation_of parts)) ++ others) e.bindings
          (same_behind (setting.binders operator (take e.part (each_of annotation_of parts))) types others same) fit.fits;
    })
    (binds (record {
      bindings = situation.bindings;
      forest = situation.forest;
      honest = situation.honest;
      fits = fits_so setting.schemas situation.forest others types situation.bindings (λ number. sym (same number)) situation.fits;
      calls_keep = situation.calls_keep;
    }))

module _ (setting : Setting) where
  mutual
    pub sound_so : (e : TypedExpression) (types others : Types) → SameTypes types others → IsSound setting e types → IsSound setting e others
    sound_so (At place outer kind operator parts) types others same h = (
      (λ situation. h.0 (record {
        bindings = situation.bindings;
        forest = situation.forest;
        honest = situation.honest;
        fits = fits_so setting.schemas situation.forest others types situation.bindings (λ number. sym (same number)) situation.fits;
        calls_keep = situation.calls_keep;
      })),
      sound_parts_so operator [] parts types others same h.1,
    )

    sound_parts_so : (operator : Operator) (before : List SequenceType) (parts : Parts SequenceType) (types others : Types) → SameTypes types others
        → PartsAreSound setting operator before parts types → PartsAreSound setting operator before parts others
    sound_parts_so operator before no_parts types others same h = tt
    sound_parts_so operator before (a_part first rest) types others same h = (
      sound_so first (setting.binders operator before ++ types) (setting.binders operator before ++ others) (same_behind (setting.binders operator before) types others same) h.0,
      sound_parts_so operator (before ++ annotation_of first ∷ []) rest types others same h.1,
    )

  mutual
    pub bound_so : (e : TypedExpression) (types others : Types) → SameTypes types others → IsWellBound setting e types → IsWellBound setting e others
    bound_so (At place outer kind operator parts) types others same h =
        (binds_so setting operator parts types others same h.0, bound_parts_so operator [] parts types others same h.1)

    bound_parts_so : (operator : Operator) (before : List SequenceType) (parts : Parts SequenceType) (types others : Types) → SameTypes types others
        → PartsAreWellBound setting operator before parts types → PartsAreWellBound setting operator before parts others
    bound_parts_so operator before no_parts types others same h = tt
    bound_parts_so operator before (a_part first rest) types others same h = (
      bound_so first (setting.binders operator before ++ types) (setting.binders operator before ++ others) (same_behind (setting.binders operator before) types others same) h.0,
      bound_parts_so operator (before ++ annotation_of first ∷ []) rest types others same h.1,
    )
