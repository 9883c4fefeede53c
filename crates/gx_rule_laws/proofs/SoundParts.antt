-- What the parts of a sound operator come to.
use Rattle.std.proofs.Common.{◌≡◌, ◌≤◌, true, List, [], ◌∷◌, ◌++◌, length, refl, arith}
use Rattle.gx_types.specs.SchemaSet.{SchemaSet}
use Rattle.gx_types.specs.SequenceType.{SequenceType}
use Rattle.gx_model.specs.Belongs.{Belongs}
use Rattle.gx_model.specs.Forest.{Forest}
use Rattle.gx_model.specs.Item.{Items}
use Rattle.gx_core.specs.declared.operator.Operator.{Operator}
use Rattle.gx_core.specs.Bindings.{Types}
use Rattle.gx_core.specs.Evaluations.{evaluation_of_part}
use Rattle.gx_core.specs.Expression.{At, annotation_of}
use Rattle.gx_core.specs.Meaning.{Bindings, meaning}
use Rattle.gx_core.specs.Soundness.{TypedExpression, Setting, context_of, Keeps, CallsKeepTypes, IsSound}
use Rattle.gx_core.proofs.KeptFacts.{calls_keep_still}
use Rattle.gx_core.proofs.SoundQueries.{keeps_its_type}
use Rattle.gx_static.specs.Rule.{is_at_most_one}
use Rattle.gx_static.proofs.Singles.{few_items}
use Rattle.gx_plan.specs.Plan.{PlanExpression, kind_carried, typed_expression}
use Rattle.gx_plan.specs.Fitting.{FitsAt}
use Rattle.gx_rule_laws.proofs.InOrder.{IsAtMostOne}

pub kind_of : (e : PlanExpression) → annotation_of (typed_expression e) ≡ kind_carried e
kind_of (At place outer carried operator parts) = refl

-- the first part of a sound operator keeps its type where the operator asks for it
pub first_keeps : (setting : Setting) (operator : Operator) (ts : List SequenceType) (first : TypedExpression) (types : Types)
    (bindings : Bindings) (before forest : Forest) → CallsKeepTypes setting before
    → FitsAt setting operator ts types before (evaluation_of_part 0 bindings forest)
    → IsSound setting first (setting.binders operator [] ++ types)
    → Keeps setting forest (annotation_of first) (meaning (context_of setting) first bindings forest)
first_keeps setting operator ts first types bindings before forest calls fits sound =
    keeps_its_type setting first (setting.binders operator [] ++ types) sound
    (record { bindings = bindings; forest = forest; honest = fits.honest; fits = fits.fits; calls_keep = calls_keep_still setting before forest fits.grown calls })

-- a value of a type of at most one item
pub has_few_items : (s : SchemaSet) (forest : Forest) (t : SequenceType) (xs : Items) → is_at_most_one t ≡ true → Belongs s forest xs t
    → IsAtMostOne xs
has_few_items s forest t xs e b = by_length xs (few_items s forest t xs e b)
  where
    by_length : (ys : Items) → length ys ≤ 1 → IsAtMostOne ys
    by_length [] l = tt
    by_length (x ∷ []) l = tt
    by_length (x ∷ y ∷ ys) l = absurd (omega (arith, l))
