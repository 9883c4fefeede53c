-- Parts that make nothing and have values in place have the same values later on, with hash joins too.
use Rattle.std.proofs.Common.{◌≡◌, inl, inr, ℕ, true, refl, sym, ◌∙◌, subst}
use Rattle.gx_types.specs.SchemaSet.{SchemaSet}
use Rattle.gx_model.specs.Forest.{Forest}
use Rattle.gx_model.specs.Item.{Items}
use Rattle.gx_core.specs.Bindings.{look_up, Types}
use Rattle.gx_core.specs.Outcome.{Outcome, gives, raises, wrong}
use Rattle.gx_core.specs.Meaning.{Context, Bindings, meaning}
use Rattle.gx_core.specs.Soundness.{Setting, context_of, Situation}
use Rattle.gx_core.proofs.KeptFacts.{later}
use Rattle.gx_growth_laws.specs.Steady.{makes_nothing, IsSteady}
use Rattle.gx_growth_laws.proofs.PublicLaws.{steady_expressions_stay}
use Rattle.gx_plan.specs.declared.plan.Carried.{Carried}
use Rattle.gx_plan.specs.Plan.{PlanExpression, typed_expression}
use Rattle.gx_plan.specs.SameMeaning.{ComesToTheSame}
use Rattle.gx_plan.specs.TypeErrors.{IsSameUnlessWrong}
use Rattle.gx_plan.proofs.TypedPlans.{plans_mean_their_typed_core}
use Rattle.gx_rules.specs.Guards.{is_named_in}
use Rattle.gx_rule_laws.specs.QuietValues.{GivesInPlace, HasValueInPlace}
use Rattle.gx_joins.specs.Pairs.{HasGrown}
use Rattle.gx_joins.specs.JoinedMeaning.{joined_meaning}
use Rattle.gx_join_laws.proofs.AlikeOperators.{IsBoundAlike}
use Rattle.gx_join_laws.proofs.AlikeJoins.{joined_alike}
use Rattle.gx_join_laws.proofs.TypedBindings.{typed_bindings, typed_alike, typed_fit, typed_there}

-- an outcome is a value, in this forest
record IsInPlace (forest : Forest) (o : Outcome Items) : Type 0 where
  value : Items
  is : o ≡ gives value forest

in_place : (forest : Forest) (o : Outcome Items) → GivesInPlace forest o → IsInPlace forest o
in_place forest (gives xs left) h = record { value = xs; is = subst (λ now. gives xs left ≡ gives xs now) h refl }
in_place forest (raises code) h = absurd h
in_place forest wrong h = absurd h

unless_gives : (one other : Outcome Items) (value : Items) (forest : Forest) → one ≡ gives value forest → IsSameUnlessWrong one other → other ≡ gives value forest
unless_gives one other value forest e (inl f) = absurd (cc)
unless_gives one other value forest e (inr f) = sym f ∙ e

bound_alike : (bindings others last : Bindings) (number : ℕ) → IsBoundAlike bindings others number → look_up others number ≡ look_up last number
    → IsBoundAlike bindings last number
bound_alike bindings others last number (inl e) f = inl e
bound_alike bindings others last number (inr e) f = inr (e ∙ f)

-- an expression has one value in all forests that have grown from this one, under all bindings that are the same for the variables that it names
pub record HasOneValue (schemas : SchemaSet) (context : Context) (e : PlanExpression) (bindings : Bindings) (now : Forest) : Type 0 where
  pub value : Items
  pub same : (others : Bindings) → ((number : ℕ) → is_named_in e number ≡ true → look_up bindings number ≡ look_up others number)
      → (forest : Forest) → HasGrown schemas now forest → joined_meaning context e others forest ≡ gives value forest

pub has_one_value : (setting : Setting) (e : PlanExpression) (types : Types)
    → ComesToTheSame setting (joined_meaning (context_of setting) e) (typed_expression e) types → HasValueInPlace setting e types
    → makes_nothing e ≡ true → (situation : Situation setting types)
    → HasOneValue setting.schemas (context_of setting) e situation.bindings situation.forest
has_one_value setting e types same valued nothing situation =
    let context : Context = context_of setting in
    let bindings : Bindings = typed_bindings types situation.bindings in
    let now : Forest = situation.forest in
    let here : Situation setting types = record {
      bindings = bindings;
      forest = now;
      honest = situation.honest;
      fits = typed_fit setting.schemas now types situation.bindings situation.fits;
      calls_keep = situation.calls_keep;
    } in
    let v : IsInPlace now (meaning context (typed_expression e) bindings now) = in_place now (meaning context (typed_expression e) bindings now) (valued here) in
    record {
      value = v.value;
      same = λ others agree forest grown.
          let steady : IsSteady context e bindings now forest v.value now =
          steady_expressions_stay Carried context e bindings now forest v.value now nothing
          (typed_there setting.schemas now types situation.bindings situation.fits) grown.grown
          (plans_mean_their_typed_core context e bindings now ∙ v.is) in
          unless_gives (joined_meaning context e bindings forest) (joined_meaning context e others forest) v.value forest
          (same (later setting types here forest grown.grown grown.honest) ∙ sym (plans_mean_their_typed_core context e bindings forest) ∙ steady.same)
          (joined_alike context e bindings others forest
          (λ number named. bound_alike bindings situation.bindings others number (typed_alike types situation.bindings number) (agree number named)));
    }
