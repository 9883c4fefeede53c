-- The loops of a sound expression take items of the types of their variables, where these are the types that their binders give.
use Rattle.std.proofs.Common.{◌≡◌, ℕ, zero, suc, Option, None, Some, List, [], ◌∷◌, ◌++◌, refl, ap, ◌∙◌}
use Rattle.std.specs.List.{All}
use Rattle.std.proofs.lemmas.List.Elements.{All-nil, All-cons}
use Rattle.gx_types.specs.SchemaSet.{SchemaSet}
use Rattle.gx_types.specs.SequenceType.{SequenceType}
use Rattle.gx_types.specs.Prime.{prime_of}
use Rattle.gx_model.specs.Belongs.{Belongs}
use Rattle.gx_model.specs.Forest.{Forest}
use Rattle.gx_model.specs.Item.{Items}
use Rattle.gx_core.specs.declared.expression.Binder.{Binder}
use Rattle.gx_core.specs.declared.operator.Operator.{Operator}
use Rattle.gx_core.specs.declared.operator.Operator.TheVariants as operators
use Rattle.gx_core.specs.declared.signature.FunctionSignature.{FunctionSignature}
use Rattle.gx_core.specs.Bindings.{Types, look_up, types_bound}
use Rattle.gx_core.specs.Expression.{At, Parts, no_parts, a_part, each_of, annotation_of}
use Rattle.gx_core.specs.Meaning.{CallOutcomes, meaning}
use Rattle.gx_core.specs.Outcome.{Outcome, gives, raises, wrong}
use Rattle.gx_core.specs.Soundness.{Setting, context_of, Keeps, IsSound, PartsAreSound}
use Rattle.gx_core.proofs.SoundQueries.{keeps_its_type}
use Rattle.gx_plan.specs.declared.plan.Carried.{Carried}
use Rattle.gx_plan.specs.Plan.{PlanExpression, typed_expression, typed_parts}
use Rattle.gx_plan.proofs.FittingBindings.{items_belong}
use Rattle.gx_plan.proofs.FittingBindings as fitting
use Rattle.gx_sound_typing.specs.CarriedTyping.{with_carried, carried_binders, CarryBound, CarryAllBound, CarryBoundInParts}
use Rattle.gx_rule_laws.specs.QuietValues.{plan_setting}
use Rattle.gx_join_laws.specs.LoopItems.{EachBelongs, LoopTakesItems, LoopsTakeItems, LoopsInPartsTakeItems, SoundLoopsTakeItems}

abbrev first_type : Types → Option SequenceType
first_type [] = None
first_type (b ∷ types) = Some b.1

-- the variable of a loop carries the prime type of the source
carried_so : (variables : Types) (binder : Binder) (position : ℕ) (k : SequenceType)
    → carried_binders variables (operators.For binder position) (k ∷ []) ≡ types_bound (operators.For binder position) (k ∷ [])
    → look_up variables binder.variable ≡ Some (prime_of k)
carried_so variables binder zero k e = by_found (look_up variables binder.variable) refl e
  where
    by_found : (found : Option SequenceType) → look_up variables binder.variable ≡ found → with_carried binder.variable found [] ≡ types_bound (operators.For binder zero) (k ∷ [])
        → look_up variables binder.variable ≡ Some (prime_of k)
    by_found None f e = absurd (cc)
    by_found (Some t) f e = f ∙ ap first_type e
carried_so variables binder (suc n) k e = by_found (look_up variables binder.variable) refl (look_up variables (suc n)) e
  where
    by_found : (found : Option SequenceType) → look_up variables binder.variable ≡ found → (other : Option SequenceType)
        → with_carried binder.variable found (with_carried (suc n) other []) ≡ types_bound (operators.For binder (suc n)) (k ∷ [])
        → look_up variables binder.variable ≡ Some (prime_of k)
    by_found None f None e = absurd (cc)
    by_found None f (Some u) e = absurd (cc)
    by_found (Some t) f other e = f ∙ ap first_type e

all_belong : (s : SchemaSet) (forest : Forest) (t : SequenceType) (xs : Items) → fitting.EachBelongs s forest t xs → All (λ x. Belongs s forest (x ∷ []) t) xs
all_belong s forest t [] h = All-nil (λ x. Belongs s forest (x ∷ []) t)
all_belong s forest t (x ∷ xs) h = All-cons (λ y. Belongs s forest (y ∷ []) t) x xs h.0 (all_belong s forest t xs h.1)

each_belongs : (setting : Setting) (before : Forest) (k : SequenceType) (o : Outcome Items) → Keeps setting before k o → EachBelongs setting.schemas (prime_of k) o
each_belongs setting before k (gives xs now) h = all_belong setting.schemas now (prime_of k) xs (items_belong setting.schemas now k xs h.fact)
each_belongs setting before k (raises code) h = tt
each_belongs setting before k wrong h = tt

module _ (s : SchemaSet) (variables : Types) (known : List FunctionSignature) (calls : CallOutcomes) where
  abbrev setting : Setting
  setting = plan_setting s variables known calls

  loop_takes : (operator : Operator) (parts : Parts Carried) (types : Types) → PartsAreSound setting operator [] (typed_parts parts) types
      → CarryBound variables operator (each_of annotation_of (typed_parts parts)) → LoopTakesItems setting variables operator parts types
  loop_takes (operators.For binder position) (a_part source others) types sound carry =
      let k : SequenceType = annotation_of (typed_expression source) in
      record {
        t = prime_of k;
        carried = carried_so variables binder position k (carry 1);
        items = λ situation. each_belongs setting situation.forest k (meaning (context_of setting) (typed_expression source) situation.bindings situation.forest)
            (keeps_its_type setting (typed_expression source) types sound.0 situation);
      }
  loop_takes _ _ types sound carry = tt

  mutual
    all_take : (e : PlanExpression) (types : Types) → IsSound setting (typed_expression e) types → CarryAllBound variables (typed_expression e)
        → LoopsTakeItems setting variables e types
    all_take (At place outer carried operator parts) types sound carry =
        (loop_takes operator parts types sound.1 carry.0, all_parts_take operator [] parts types sound.1 carry.1)

    all_parts_take : (operator : Operator) (before : List SequenceType) (parts : Parts Carried) (types : Types)
        → PartsAreSound setting operator before (typed_parts parts) types → CarryBoundInParts variables (typed_parts parts)
        → LoopsInPartsTakeItems setting variables operator before parts types
    all_parts_take operator before no_parts types sound carry = tt
    all_parts_take operator before (a_part first others) types sound carry = (
      all_take first (setting.binders operator before ++ types) sound.0 carry.0,
      all_parts_take operator (before ++ annotation_of (typed_expression first) ∷ []) others types sound.1 carry.1,
    )

pub sound_loops_take_items : SoundLoopsTakeItems
sound_loops_take_items s variables known calls e types sound carry = all_take s variables known calls e types sound carry
