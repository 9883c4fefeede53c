-- Fair joins stay fair where a part of an operator is rewritten, and in another order of variables.
use Rattle.std.proofs.Common.{◌⊎◌, inl, inr, Bool, List, [], ◌∷◌, ◌++◌, sym, subst}
use Rattle.gx_facets.specs.declared.AtomValue.{AtomValue}
use Rattle.gx_types.specs.SequenceType.{SequenceType}
use Rattle.gx_core.specs.declared.operator.Operator.{Operator}
use Rattle.gx_core.specs.declared.operator.Operator.TheVariants as operators
use Rattle.gx_core.specs.Bindings.{Types}
use Rattle.gx_core.specs.Expression.{At, Parts, no_parts, a_part, annotation_of}
use Rattle.gx_core.specs.Meaning.{meaning}
use Rattle.gx_core.specs.Soundness.{Setting, context_of}
use Rattle.gx_plan.specs.declared.plan.Carried.{Carried}
use Rattle.gx_plan.specs.Plan.{PlanExpression, typed_expression}
use Rattle.gx_plan.specs.SameMeaning.{ComesToTheSame}
use Rattle.gx_rule_laws.specs.QuietValues.{GivesInPlace, HasValueInPlace, JoinsCompareInPlace, JoinsInPartsCompareInPlace}
use Rattle.gx_rule_laws.specs.FairJoins.{is_number_value, is_text_value, ValuesPass, IsKeyOf, AreFairKeys, IsFairOperator, AreJoinsFair, JoinsInPartsAreFair, HasFairJoins}
use Rattle.gx_rule_laws.proofs.Reordering.{SameTypes, fits_so, same_behind}

module _ (setting : Setting) where
  -- ---- what comes to the same

  pub value_so : (e other : PlanExpression) (types : Types) → ComesToTheSame setting (meaning (context_of setting) (typed_expression other)) (typed_expression e) types
      → HasValueInPlace setting e types → HasValueInPlace setting other types
  value_so e other types same h situation = subst (GivesInPlace situation.forest) (sym (same situation)) (h situation)

  key_so : (test : AtomValue → Bool) (e other : PlanExpression) (types : Types)
      → ComesToTheSame setting (meaning (context_of setting) (typed_expression other)) (typed_expression e) types → IsKeyOf test setting e types → IsKeyOf test setting other types
  key_so test e other types same h situation = subst (ValuesPass test) (sym (same situation)) (h situation)

  pub keys_so : (left right other_left other_right : PlanExpression) (types : Types)
      → ComesToTheSame setting (meaning (context_of setting) (typed_expression other_left)) (typed_expression left) types
      → ComesToTheSame setting (meaning (context_of setting) (typed_expression other_right)) (typed_expression right) types
      → AreFairKeys setting left right types → AreFairKeys setting other_left other_right types
  keys_so left right other_left other_right types first second h = record {
    left_value = value_so left other_left types first h.left_value;
    right_value = value_so right other_right types second h.right_value;
    family = by_family h.family;
  }
    where
      by_family : ((IsKeyOf is_number_value setting left types × IsKeyOf is_number_value setting right types)
          ⊎ (IsKeyOf is_text_value setting left types × IsKeyOf is_text_value setting right types))
          → ((IsKeyOf is_number_value setting other_left types × IsKeyOf is_number_value setting other_right types)
          ⊎ (IsKeyOf is_text_value setting other_left types × IsKeyOf is_text_value setting other_right types))
      by_family (inl k) = inl (key_so is_number_value left other_left types first k.0, key_so is_number_value right other_right types second k.1)
      by_family (inr k) = inr (key_so is_text_value left other_left types first k.0, key_so is_text_value right other_right types second k.1)

  -- ---- another order of variables

  value_there : (e : PlanExpression) (types others : Types) → SameTypes types others → HasValueInPlace setting e types → HasValueInPlace setting e others
  value_there e types others same h situation = h (record {
    bindings = situation.bindings;
    forest = situation.forest;
    honest = situation.honest;
    fits = fits_so setting.schemas situation.forest others types situation.bindings (λ number. sym (same number)) situation.fits;
    calls_keep = situation.calls_keep;
  })

  key_there : (test : AtomValue → Bool) (e : PlanExpression) (types others : Types) → SameTypes types others → IsKeyOf test setting e types → IsKeyOf test setting e others
  key_there test e types others same h situation = h (record {
    bindings = situation.bindings;
    forest = situation.forest;
    honest = situation.honest;
    fits = fits_so setting.schemas situation.forest others types situation.bindings (λ number. sym (same number)) situation.fits;
    calls_keep = situation.calls_keep;
  })

  keys_there : (left right : PlanExpression) (types others : Types) → SameTypes types others → AreFairKeys setting left right types → AreFairKeys setting left right others
  keys_there left right types others same h = record {
    left_value = value_there left types others same h.left_value;
    right_value = value_there right types others same h.right_value;
    family = by_family h.family;
  }
    where
      by_family : ((IsKeyOf is_number_value setting left types × IsKeyOf is_number_value setting right types)
          ⊎ (IsKeyOf is_text_value setting left types × IsKeyOf is_text_value setting right types))
          → ((IsKeyOf is_number_value setting left others × IsKeyOf is_number_value setting right others)
          ⊎ (IsKeyOf is_text_value setting left others × IsKeyOf is_text_value setting right others))
      by_family (inl k) = inl (key_there is_number_value left types others same k.0, key_there is_number_value right types others same k.1)
      by_family (inr k) = inr (key_there is_text_value left types others same k.0, key_there is_text_value right types others same k.1)

  operator_there : (e : PlanExpression) (types others : Types) → SameTypes types others → IsFairOperator setting e types → IsFairOperator setting e others
  operator_there (At place outer carried (operators.For binder position) (a_part source rest)) types others same h = λ marked. value_there source types others same (h marked)
  operator_there (At place outer carried (operators.Binary operator) (a_part left (a_part right no_parts))) types others same h =
      λ marked. keys_there left right types others same (h marked)
  operator_there _ types others same h = tt

  mutual
    pub fair_there : (e : PlanExpression) (types others : Types) → SameTypes types others → AreJoinsFair setting e types → AreJoinsFair setting e others
    fair_there (At place outer carried operator parts) types others same h =
        (operator_there (At place outer carried operator parts) types others same h.0, fair_parts_there operator [] parts types others same h.1)

    fair_parts_there : (operator : Operator) (before : List SequenceType) (parts : Parts Carried) (types others : Types) → SameTypes types others
        → JoinsInPartsAreFair setting operator before parts types → JoinsInPartsAreFair setting operator before parts others
    fair_parts_there operator before no_parts types others same h = tt
    fair_parts_there operator before (a_part first rest) types others same h = (
      fair_there first (setting.binders operator before ++ types) (setting.binders operator before ++ others) (same_behind (setting.binders operator before) types others same) h.0,
      fair_parts_there operator (before ++ annotation_of (typed_expression first) ∷ []) rest types others same h.1,
    )

  mutual
    pub compare_there : (e : PlanExpression) (types others : Types) → SameTypes types others → JoinsCompareInPlace setting e types → JoinsCompareInPlace setting e others
    compare_there (At place outer carried operator parts) types others same h = (
      (λ marked. value_there (At place outer carried operator parts) types others same (h.0 marked)),
      compare_parts_there operator [] parts types others same h.1,
    )

    compare_parts_there : (operator : Operator) (before : List SequenceType) (parts : Parts Carried) (types others : Types) → SameTypes types others
        → JoinsInPartsCompareInPlace setting operator before parts types → JoinsInPartsCompareInPlace setting operator before parts others
    compare_parts_there operator before no_parts types others same h = tt
    compare_parts_there operator before (a_part first rest) types others same h = (
      compare_there first (setting.binders operator before ++ types) (setting.binders operator before ++ others) (same_behind (setting.binders operator before) types others same) h.0,
      compare_parts_there operator (before ++ annotation_of (typed_expression first) ∷ []) rest types others same h.1,
    )

  pub joins_there : (e : PlanExpression) (types others : Types) → SameTypes types others → HasFairJoins setting e types → HasFairJoins setting e others
  joins_there e types others same h = record { fair = fair_there e types others same h.fair; compare = compare_there e types others same h.compare }
