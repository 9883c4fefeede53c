-- The test inside a join stands in the plan where that of the loops did.
use Rattle.std.proofs.Common.{◌≡◌, inl, inr, Bool, true, false, ◌&&◌, Option, List, [], ◌∷◌, ◌++◌, refl, sym, subst}
use Rattle.std.specs.List.{AllByRecursion}
use Rattle.gx_base.specs.declared.place.Place.{Place}
use Rattle.gx_base.specs.declared.type_name.Builtin.TheVariants.{Boolean}
use Rattle.gx_types.specs.SchemaSet.{SchemaSet}
use Rattle.gx_types.specs.SequenceType.{SequenceType}
use Rattle.gx_types.specs.TypeRules.{choice_of}
use Rattle.gx_types.proofs.PublicLaws.{choice_takes_members}
use Rattle.gx_model.specs.Belongs.{Belongs}
use Rattle.gx_model.specs.Forest.{Forest}
use Rattle.gx_model.specs.Honest.{IsHonest}
use Rattle.gx_model.specs.Item.{Items}
use Rattle.gx_model.proofs.PublicLaws.{growth_is_an_order}
use Rattle.gx_atomic.specs.declared.comparison.Op.TheVariants as comparisons
use Rattle.gx_core.specs.declared.expression.BinaryOp.TheVariants as binary
use Rattle.gx_core.specs.declared.operator.Operator.{Operator}
use Rattle.gx_core.specs.declared.operator.Operator.TheVariants as operators
use Rattle.gx_core.specs.declared.signature.FunctionSignature.{FunctionSignature}
use Rattle.gx_core.specs.Bindings.{Types, numbers_bound_by}
use Rattle.gx_core.specs.Comparing.{condition_of}
use Rattle.gx_core.specs.Evaluations.{evaluations}
use Rattle.gx_core.specs.Expression.{At, Parts, no_parts, two_parts, three_parts, each_of, annotation_of}
use Rattle.gx_core.specs.Meaning.{CallOutcomes, Context, acts, all_of, branch, denoted, meaning, meanings}
use Rattle.gx_core.specs.Outcome.{Outcome, given}
use Rattle.gx_core.specs.Soundness.{Setting, context_of, typed_setting, AreOfTypes, IsOfType, Keeps, Fits, Situation}
use Rattle.gx_core.proofs.KeptFacts.{bindings_fit_still, calls_keep_still, fact_after, operands_keep}
use Rattle.gx_core.proofs.SoundQueries.{keeps_its_type}
use Rattle.gx_static.specs.Rule.{has_type, is_at_least_one, is_optional_in, conditional_rule, general_comparison_rule}
use Rattle.gx_static.proofs.Comparisons.{general_comparison_keeps}
use Rattle.gx_static.proofs.Conditionals.{one_condition, widened}
use Rattle.gx_static.proofs.Keeping.{type_so}
use Rattle.gx_plan.specs.declared.plan.Role.{Role}
use Rattle.gx_plan.specs.declared.plan.Carried.{Carried}
use Rattle.gx_plan.specs.Plan.{PlanExpression, kind_carried, typed_expression, typed_parts}
use Rattle.gx_plan.specs.Fitting.{FitsAt, BindsWell}
use Rattle.gx_rules.specs.Rules.{made_as}
use Rattle.gx_rule_laws.specs.QuietValues.{carried_types, plan_setting}
use Rattle.gx_rule_laws.specs.KeepingSoundness.{StandsInPlan}
use Rattle.gx_rule_laws.proofs.AnyItems.{keeps_ruled}
use Rattle.gx_rule_laws.proofs.OrdersStand.{keeps_in_plan}
use Rattle.gx_rule_laws.proofs.ReplacedParts.{all_so}
use Rattle.gx_rule_laws.proofs.Rewriting.{units, units_taken}
use Rattle.gx_rule_laws.proofs.SoundParts.{kind_of}

module _ (s : SchemaSet) (variables : Types) (known : List FunctionSignature) (calls : CallOutcomes) where
  abbrev setting : Setting
  setting = plan_setting s variables known calls

  abbrev context : Context
  context = context_of setting

  -- an operator binds as well over parts of the same meanings that carry other types
  pub binds_over : (operator : Operator) (parts others : Parts SequenceType) (types : Types) → meanings context others ≡ meanings context parts
      → units (each_of annotation_of parts) ≡ units (each_of annotation_of others) → BindsWell setting operator parts types → BindsWell setting operator others types
  binds_over operator parts others types same count binds situation =
      subst (λ ds. AllByRecursion (FitsAt setting operator (each_of annotation_of others) types situation.forest) (evaluations context operator ds situation.bindings situation.forest)) (sym same)
      (all_so (FitsAt setting operator (each_of annotation_of parts) types situation.forest) (FitsAt setting operator (each_of annotation_of others) types situation.forest)
      (evaluations context operator (meanings context parts) situation.bindings situation.forest)
      (λ e fit. record {
        grown = fit.grown;
        honest = fit.honest;
        fits = subst (λ (us : List (Unit {0})). Fits s e.forest (carried_types variables (numbers_bound_by operator us) ++ types) e.bindings)
            (units_taken e.part (each_of annotation_of parts) (each_of annotation_of others) count) fit.fits;
      })
      (binds situation))

  -- ---- the empty sequence

  pub empty_stands : (role : Role) (place : Place) (e : PlanExpression) (types : Types) → StandsInPlan s variables known calls e types
      → StandsInPlan s variables known calls (made_as role s place operators.Empty no_parts) types
  empty_stands role place e types stands = record {
    stands = record {
      schemas = stands.stands.schemas;
      regular = (tt, tt);
      sound = (
        (λ situation. record {
          grown = growth_is_an_order.reflexive situation.forest;
          honest = situation.honest;
          fact = record { seen = []; shaped = tt; taken = refl };
        }),
        tt,
      );
      well_bound = ((λ situation. tt), tt);
    };
    positions = (tt, tt);
    none_carries = stands.none_carries;
    none_typed = stands.none_typed;
  }

  -- ---- the comparison of keys

  pub comparison_stands : (role : Role) (place here outer : Place) (carried : Carried) (left right : PlanExpression) (types : Types)
      → StandsInPlan s variables known calls (At here outer carried (operators.Binary binary.AnyEq) (two_parts left right)) types
      → StandsInPlan s variables known calls (made_as role s place (operators.Binary binary.AnyEq) (two_parts left right)) types
  comparison_stands role place here outer carried left right types stands = record {
    stands = record {
      schemas = stands.stands.schemas;
      regular = (tt, stands.stands.regular.1);
      sound = ((λ situation. kept situation), stands.stands.sound.1);
      well_bound = (stands.stands.well_bound.0, stands.stands.well_bound.1);
    };
    positions = (tt, stands.positions.1);
    none_carries = stands.none_carries;
    none_typed = stands.none_typed;
  }
    where
      part_keeps : (e : PlanExpression) (situation : Situation setting types)
          → Keeps setting situation.forest (annotation_of (typed_expression e)) (meaning context (typed_expression e) situation.bindings situation.forest)
          → Keeps setting situation.forest (kind_carried e) (meaning context (typed_expression e) situation.bindings situation.forest)
      part_keeps e situation h =
          subst (λ (t : SequenceType). Keeps setting situation.forest t (meaning context (typed_expression e) situation.bindings situation.forest)) (kind_of e) h

      acted : (u : SequenceType) → general_comparison_rule s (kind_carried left) (kind_carried right) ≡ has_type u → (values : List Items) (now : Forest) → IsHonest s now
          → AreOfTypes s (kind_carried left ∷ kind_carried right ∷ []) now values → Keeps setting now u (acts context (operators.Binary binary.AnyEq) values now)
      acted u is_ruled [] now honest belong = absurd belong
      acted u is_ruled (xs ∷ []) now honest belong = absurd belong.1
      acted u is_ruled (xs ∷ ys ∷ []) now honest belong =
          keeps_in_plan s variables known calls now u (acts (context_of (typed_setting s)) (operators.Binary binary.AnyEq) (xs ∷ ys ∷ []) now)
          (general_comparison_keeps comparisons.Eq s binary.AnyEq refl (kind_carried left ∷ kind_carried right ∷ []) u now (xs ∷ ys ∷ []) is_ruled honest belong)
      acted u is_ruled (xs ∷ ys ∷ zs ∷ values) now honest belong = absurd belong.1.1

      kept : (situation : Situation setting types)
          → Keeps setting situation.forest (kind_carried (made_as role s place (operators.Binary binary.AnyEq) (two_parts left right)))
          (denoted context (operators.Binary binary.AnyEq) (meaning context (typed_expression left) ∷ meaning context (typed_expression right) ∷ []) situation.bindings situation.forest)
      kept situation =
          let ds = meaning context (typed_expression left) ∷ meaning context (typed_expression right) ∷ [] in
          let outcome : Outcome Items = denoted context (operators.Binary binary.AnyEq) ds situation.bindings situation.forest in
          keeps_ruled setting stands.stands.schemas situation.forest carried.kind outcome (general_comparison_rule s (kind_carried left) (kind_carried right)) (stands.stands.sound.0 situation)
          (λ u is_ruled. fact_after setting situation.forest (AreOfTypes s (kind_carried left ∷ kind_carried right ∷ [])) (IsOfType s u) (all_of ds situation.bindings situation.forest)
          (acts context (operators.Binary binary.AnyEq))
          (operands_keep setting types ds (kind_carried left ∷ kind_carried right ∷ []) situation (
            (λ other. part_keeps left other (keeps_its_type setting (typed_expression left) types stands.stands.sound.1.0 other)),
            ((λ other. part_keeps right other (keeps_its_type setting (typed_expression right) types stands.stands.sound.1.1.0 other)), tt),
          ))
          (λ values left_forest grown honest belong. acted u is_ruled values left_forest honest belong))

  -- ---- the conditional

  member_belongs : (forest : Forest) (t u : SequenceType) (xs : Items) → Belongs s forest xs t → Belongs s forest xs (choice_of t u)
  member_belongs forest t u xs b = record { seen = b.seen; shaped = b.shaped; taken = choice_takes_members s t u b.seen (inl b.taken) }

  other_belongs : (forest : Forest) (t u : SequenceType) (xs : Items) → Belongs s forest xs u → Belongs s forest xs (choice_of t u)
  other_belongs forest t u xs b = record { seen = b.seen; shaped = b.shaped; taken = choice_takes_members s t u b.seen (inr b.taken) }

  pub if_stands : (role : Role) (place : Place) (condition chosen otherwise : PlanExpression) (types : Types) (t : SequenceType) → StandsInPlan s variables known calls condition types
      → StandsInPlan s variables known calls chosen types → StandsInPlan s variables known calls otherwise types
      → BindsWell setting operators.If (typed_parts (three_parts condition chosen otherwise)) types
      → ((situation : Situation setting types) → Keeps setting situation.forest t
      (denoted context operators.If (meanings context (typed_parts (three_parts condition chosen otherwise))) situation.bindings situation.forest))
      → StandsInPlan s variables known calls (made_as role s place operators.If (three_parts condition chosen otherwise)) types
  if_stands role place condition chosen otherwise types t condition_stands chosen_stands otherwise_stands binds keeps = record {
    stands = record {
      schemas = condition_stands.stands.schemas;
      regular = (tt, (condition_stands.stands.regular, (chosen_stands.stands.regular, (otherwise_stands.stands.regular, tt))));
      sound = ((λ situation. kept situation), (condition_stands.stands.sound, (chosen_stands.stands.sound, (otherwise_stands.stands.sound, tt))));
      well_bound = (binds, (condition_stands.stands.well_bound, (chosen_stands.stands.well_bound, (otherwise_stands.stands.well_bound, tt))));
    };
    positions = (tt, (condition_stands.positions, (chosen_stands.positions, (otherwise_stands.positions, tt))));
    none_carries = condition_stands.none_carries;
    none_typed = condition_stands.none_typed;
  }
    where
      branch_keeps : (situation : Situation setting types) (truth : Bool)
          → Keeps setting situation.forest (choice_of (kind_carried chosen) (kind_carried otherwise))
          (branch truth (meaning context (typed_expression chosen)) (meaning context (typed_expression otherwise)) situation.bindings situation.forest)
      branch_keeps situation true =
          widened setting situation.forest (kind_carried chosen) (choice_of (kind_carried chosen) (kind_carried otherwise)) (meaning context (typed_expression chosen) situation.bindings situation.forest)
          (λ now xs. member_belongs now (kind_carried chosen) (kind_carried otherwise) xs)
          (subst (λ (k : SequenceType). Keeps setting situation.forest k (meaning context (typed_expression chosen) situation.bindings situation.forest)) (kind_of chosen)
          (keeps_its_type setting (typed_expression chosen) types chosen_stands.stands.sound situation))
      branch_keeps situation false =
          widened setting situation.forest (kind_carried otherwise) (choice_of (kind_carried chosen) (kind_carried otherwise)) (meaning context (typed_expression otherwise) situation.bindings situation.forest)
          (λ now xs. other_belongs now (kind_carried chosen) (kind_carried otherwise) xs)
          (subst (λ (k : SequenceType). Keeps setting situation.forest k (meaning context (typed_expression otherwise) situation.bindings situation.forest)) (kind_of otherwise)
          (keeps_its_type setting (typed_expression otherwise) types otherwise_stands.stands.sound situation))

      ruled_so : (situation : Situation setting types) (u : SequenceType) → conditional_rule s (kind_carried condition) (kind_carried chosen) (kind_carried otherwise) ≡ has_type u
          → Keeps setting situation.forest u (denoted context operators.If (meanings context (typed_parts (three_parts condition chosen otherwise))) situation.bindings situation.forest)
      ruled_so situation u is_ruled =
          let test = type_so (is_at_least_one (kind_carried condition) && is_optional_in s Boolean (kind_carried condition)) (choice_of (kind_carried chosen) (kind_carried otherwise)) u is_ruled in
          subst (λ (k : SequenceType). Keeps setting situation.forest k
          (denoted context operators.If (meanings context (typed_parts (three_parts condition chosen otherwise))) situation.bindings situation.forest)) test.1
          (fact_after setting situation.forest (IsOfType s (kind_carried condition)) (IsOfType s (choice_of (kind_carried chosen) (kind_carried otherwise)))
          (meaning context (typed_expression condition) situation.bindings situation.forest)
          (λ xs left. given (condition_of xs) (λ truth. branch truth (meaning context (typed_expression chosen)) (meaning context (typed_expression otherwise)) situation.bindings left))
          (subst (λ (k : SequenceType). Keeps setting situation.forest k (meaning context (typed_expression condition) situation.bindings situation.forest)) (kind_of condition)
          (keeps_its_type setting (typed_expression condition) types condition_stands.stands.sound situation))
          (λ xs now grown honest belongs.
          let truth = one_condition s now (kind_carried condition) xs test.0 belongs in
          subst (λ (found : Option Bool). Keeps setting now (choice_of (kind_carried chosen) (kind_carried otherwise))
          (given found (λ decided. branch decided (meaning context (typed_expression chosen)) (meaning context (typed_expression otherwise)) situation.bindings now))) (sym truth.1)
          (branch_keeps (record {
            bindings = situation.bindings;
            forest = now;
            honest = honest;
            fits = bindings_fit_still setting types situation.bindings situation.forest now grown situation.fits;
            calls_keep = calls_keep_still setting situation.forest now grown situation.calls_keep;
          }) truth.0)))

      kept : (situation : Situation setting types)
          → Keeps setting situation.forest (kind_carried (made_as role s place operators.If (three_parts condition chosen otherwise)))
          (denoted context operators.If (meanings context (typed_parts (three_parts condition chosen otherwise))) situation.bindings situation.forest)
      kept situation =
          keeps_ruled setting condition_stands.stands.schemas situation.forest t
          (denoted context operators.If (meanings context (typed_parts (three_parts condition chosen otherwise))) situation.bindings situation.forest)
          (conditional_rule s (kind_carried condition) (kind_carried chosen) (kind_carried otherwise)) (keeps situation) (λ u e. ruled_so situation u e)
