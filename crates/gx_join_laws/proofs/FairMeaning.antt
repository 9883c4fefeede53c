-- With hash joins, an expression comes to what it means.
use Rattle.std.proofs.Common.{◌≡◌, zero, true, Option, None, Some, List, [], ◌∷◌, ◌++◌, refl, subst, ◌∙◌}
use Rattle.gx_base.specs.declared.place.Place.{Place}
use Rattle.gx_types.specs.SchemaSet.{SchemaSet}
use Rattle.gx_types.specs.SequenceType.{SequenceType}
use Rattle.gx_model.specs.Forest.{Forest}
use Rattle.gx_core.specs.declared.expression.Binder.{Binder}
use Rattle.gx_core.specs.declared.expression.BinaryOp.TheVariants as binary
use Rattle.gx_core.specs.declared.operator.Operator.{Operator}
use Rattle.gx_core.specs.declared.operator.Operator.TheVariants as operators
use Rattle.gx_core.specs.declared.signature.FunctionSignature.{FunctionSignature}
use Rattle.gx_core.specs.Bindings.{Types}
use Rattle.gx_core.specs.Expression.{At, Parts, no_parts, a_part, annotation_of}
use Rattle.gx_core.specs.Meaning.{CallOutcomes, Context, Bindings, Denotation, denoted}
use Rattle.gx_core.specs.Soundness.{Setting, context_of, Situation, IsSound, PartsAreSound}
use Rattle.gx_plan.specs.declared.plan.Carried.{Carried}
use Rattle.gx_plan.specs.declared.plan.Role.{Role}
use Rattle.gx_plan.specs.declared.plan.Role.TheVariants as roles
use Rattle.gx_plan.specs.Plan.{PlanExpression, typed_expression, typed_parts}
use Rattle.gx_plan.specs.Fitting.{IsWellBound, PartsAreWellBound}
use Rattle.gx_plan.specs.SameMeaning.{ComesToTheSame, PartsComeToTheSameFrom}
use Rattle.gx_plan.proofs.ReplacingParts.{well_bound_parts_may_be_replaced}
use Rattle.gx_rules.specs.Guards.{is_in_join}
use Rattle.gx_rule_laws.specs.QuietValues.{plan_setting}
use Rattle.gx_rule_laws.specs.ApartJoins.{IsComparisonApart, IsTestApart, IsInnerLoopApart, IsJoinApart, AreJoinsApart, JoinsInPartsAreApart}
use Rattle.gx_rule_laws.specs.FairJoins.{AreJoinsFair, JoinsInPartsAreFair}
use Rattle.gx_joins.specs.HashJoin.{JoinParts, hash_join}
use Rattle.gx_joins.specs.JoinedMeaning.{if_join, as_joined, joined_meaning, joined_meanings, outer_loop}
use Rattle.gx_join_laws.specs.LoopItems.{TakesItems, LoopTakesItems, LoopsTakeItems, LoopsInPartsTakeItems}
use Rattle.gx_join_laws.specs.FairMeaning.{FairJoinsAreHashJoins}
use Rattle.gx_join_laws.proofs.SteadyJoins.{inside, joined_parts, IsFairJoin, join_is_its_loops}

-- a join is its hash join, and all else what it is
by_role : (join : Option (JoinParts Denotation)) (role : Role) (loops : Denotation) (bindings : Bindings) (forest : Forest)
    → ((parts : JoinParts Denotation) → role ≡ roles.Join → join ≡ Some parts → hash_join parts bindings forest ≡ loops bindings forest)
    → as_joined (if_join join role) loops bindings forest ≡ loops bindings forest
by_role None role loops bindings forest h = refl
by_role (Some parts) roles.Join loops bindings forest h = h parts refl refl
by_role (Some parts) roles.InJoin loops bindings forest h = refl
by_role (Some parts) roles.Own loops bindings forest h = refl

in_join : (role : Role) → role ≡ roles.InJoin → is_in_join role ≡ true
in_join roles.InJoin e = refl
in_join roles.Join e = absurd (cc)
in_join roles.Own e = absurd (cc)

module _ (s : SchemaSet) (variables : Types) (known : List FunctionSignature) (calls : CallOutcomes) where
  abbrev setting : Setting
  setting = plan_setting s variables known calls

  abbrev context : Context
  context = context_of setting

  -- what is asked of an expression, and of the parts of an operator
  record IsReady (e : PlanExpression) (types : Types) : Type 0 where
    sound : IsSound setting (typed_expression e) types
    well : IsWellBound setting (typed_expression e) types
    fair : AreJoinsFair setting e types
    apart : AreJoinsApart e
    items : LoopsTakeItems setting variables e types

  record AreReady (operator : Operator) (before : List SequenceType) (parts : Parts Carried) (types : Types) : Type 0 where
    sound : PartsAreSound setting operator before (typed_parts parts) types
    well : PartsAreWellBound setting operator before (typed_parts parts) types
    fair : JoinsInPartsAreFair setting operator before parts types
    apart : JoinsInPartsAreApart parts
    items : LoopsInPartsTakeItems setting variables operator before parts types

  -- an expression and all that stands in it come to the same
  abbrev mutual
    IsJoinedWell : PlanExpression → Types → Type 0
    IsJoinedWell (At place outer carried operator parts) types =
        ComesToTheSame setting (joined_meaning context (At place outer carried operator parts)) (typed_expression (At place outer carried operator parts)) types
        × AreJoinedWell operator [] parts types

    AreJoinedWell : Operator → (before : List SequenceType) → Parts Carried → Types → Type 0
    AreJoinedWell operator before no_parts types = Unit {0}
    AreJoinedWell operator before (a_part first others) types =
        IsJoinedWell first (setting.binders operator before ++ types)
        × AreJoinedWell operator (before ++ annotation_of (typed_expression first) ∷ []) others types

  itself : (e : PlanExpression) (types : Types) → IsJoinedWell e types → ComesToTheSame setting (joined_meaning context e) (typed_expression e) types
  itself (At place outer carried operator parts) types h = h.0

  parts_same : (start : Forest) (operator : Operator) (before : List SequenceType) (parts : Parts Carried) (types : Types) → AreJoinedWell operator before parts types
      → PartsComeToTheSameFrom setting start operator before (joined_meanings context parts) (typed_parts parts) types
  parts_same start operator before no_parts types h = tt
  parts_same start operator before (a_part first others) types h = (
    (λ situation grown. itself first (setting.binders operator before ++ types) h.0 situation),
    parts_same start operator (before ++ annotation_of (typed_expression first) ∷ []) others types h.1,
  )

  -- ---- joins

  -- where a loop is a join of its parts, it comes to its hash join
  abbrev AreLoops : (operator : Operator) (parts : Parts Carried) (types : Types) → Type 0
  AreLoops operator parts types =
      (join : JoinParts Denotation) → outer_loop context operator parts ≡ Some join → (situation : Situation setting types)
      → hash_join join situation.bindings situation.forest ≡ denoted context operator (joined_meanings context parts) situation.bindings situation.forest

  abbrev test_of : (place outer absent other : Place) (carried nothing : Carried) (comparison result : PlanExpression) → PlanExpression
  test_of place outer absent other carried nothing comparison result =
      At place outer carried operators.If (a_part comparison (a_part result (a_part (At absent other nothing operators.Empty no_parts) no_parts)))

  abbrev loop_of : (place outer : Place) (carried : Carried) (binder : Binder) (source body : PlanExpression) → PlanExpression
  loop_of place outer carried binder source body = At place outer carried (operators.For binder zero) (a_part source (a_part body no_parts))

  -- what is asked of an outer loop over these parts
  record IsOuterReady (binder : Binder) (source body : PlanExpression) (types : Types) : Type 0 where
    items : TakesItems setting variables binder source types
    ready : AreReady (operators.For binder zero) [] (a_part source (a_part body no_parts)) types
    joined : AreJoinedWell (operators.For binder zero) [] (a_part source (a_part body no_parts)) types

  at_comparison : (p1 o1 p2 o2 p4 o4 : Place) (c1 c2 c4 : Carried) (outer inner : Binder) (source other result comparison : PlanExpression) (types : Types)
      → c1.role ≡ roles.InJoin → IsComparisonApart outer.variable inner.variable other comparison
      → IsOuterReady outer source (loop_of p1 o1 c1 inner other (test_of p2 o2 p4 o4 c2 c4 comparison result)) types
      → AreLoops (operators.For outer zero) (a_part source (a_part (loop_of p1 o1 c1 inner other (test_of p2 o2 p4 o4 c2 c4 comparison result)) no_parts)) types
  at_comparison p1 o1 p2 o2 p4 o4 c1 c2 c4 outer inner source other result (At p3 o3 c3 (operators.Binary binary.AnyEq) (a_part left (a_part right no_parts))) types role apart h join found situation =
      let first : Types = inside s variables known calls outer types in
      let second : Types = inside s variables known calls inner (inside s variables known calls outer types) in
      let facts : IsFairJoin s variables known calls outer inner source other left right result types = record {
        source_sound = h.ready.sound.0;
        source_same = itself source types h.joined.0;
        source_items = h.items;
        other_same = itself other first h.joined.1.0.1.0;
        other_value = h.ready.fair.1.0.0 (in_join c1.role role);
        other_items = h.ready.items.1.0.0;
        left_same = itself left second h.joined.1.0.1.1.0.1.0.1.0;
        right_same = itself right second h.joined.1.0.1.1.0.1.0.1.1.0;
        keys = h.ready.fair.1.0.1.1.0.1.0.0 (in_join c3.role apart.0);
        result_same = itself result second h.joined.1.0.1.1.0.1.1.0;
        result_sound = h.ready.sound.1.0.1.1.0.1.1.0;
        apart = apart.1;
      } in
      let parts : JoinParts Denotation = joined_parts s variables known calls outer inner source other left right result in
      let is : parts ≡ join = cc in
      subst (λ (j : JoinParts Denotation). hash_join j situation.bindings situation.forest
      ≡ denoted context (operators.For outer zero)
      (joined_meanings context (a_part source (a_part (loop_of p1 o1 c1 inner other
      (test_of p2 o2 p4 o4 c2 c4 (At p3 o3 c3 (operators.Binary binary.AnyEq) (a_part left (a_part right no_parts))) result)) no_parts)))
      situation.bindings situation.forest) is
      (join_is_its_loops s variables known calls outer inner source other left right result types facts situation)
  at_comparison p1 o1 p2 o2 p4 o4 c1 c2 c4 outer inner source other result _ types role apart h join found situation = absurd apart

  at_test : (p1 o1 : Place) (c1 : Carried) (outer inner : Binder) (source other test : PlanExpression) (types : Types)
      → c1.role ≡ roles.InJoin → IsTestApart outer.variable inner.variable other test
      → IsOuterReady outer source (loop_of p1 o1 c1 inner other test) types
      → AreLoops (operators.For outer zero) (a_part source (a_part (loop_of p1 o1 c1 inner other test) no_parts)) types
  at_test p1 o1 c1 outer inner source other
      (At p2 o2 c2 operators.If (a_part comparison (a_part result (a_part (At p4 o4 c4 operators.Empty no_parts) no_parts)))) types role apart h join found situation =
      at_comparison p1 o1 p2 o2 p4 o4 c1 c2 c4 outer inner source other result comparison types role apart.1.1 h join found situation
  at_test p1 o1 c1 outer inner source other _ types role apart h join found situation = absurd apart

  at_inner : (outer : Binder) (source inner : PlanExpression) (types : Types) → IsInnerLoopApart outer.variable inner → IsOuterReady outer source inner types
      → AreLoops (operators.For outer zero) (a_part source (a_part inner no_parts)) types
  at_inner outer source (At p1 o1 c1 (operators.For inner zero) (a_part other (a_part test no_parts))) types apart h join found situation =
      at_test p1 o1 c1 outer inner source other test types apart.0 apart.1 h join found situation
  at_inner outer source _ types apart h join found situation = absurd apart

  at_outer : (place outer : Place) (carried : Carried) (operator : Operator) (parts : Parts Carried) (types : Types)
      → IsJoinApart (At place outer carried operator parts) → LoopTakesItems setting variables operator parts types → AreReady operator [] parts types
      → AreJoinedWell operator [] parts types → AreLoops operator parts types
  at_outer place outer carried (operators.For binder zero) (a_part source (a_part inner no_parts)) types apart items ready joined join found situation =
      at_inner binder source inner types apart (record { items = items; ready = ready; joined = joined }) join found situation
  at_outer place outer carried _ _ types apart items ready joined join found situation = absurd apart

  -- ---- expressions

  same_here : (place outer : Place) (carried : Carried) (operator : Operator) (parts : Parts Carried) (types : Types)
      → IsReady (At place outer carried operator parts) types → AreReady operator [] parts types → AreJoinedWell operator [] parts types
      → ComesToTheSame setting (joined_meaning context (At place outer carried operator parts)) (typed_expression (At place outer carried operator parts)) types
  same_here place outer carried operator parts types ready behind joined situation =
      by_role (outer_loop context operator parts) carried.role (denoted context operator (joined_meanings context parts)) situation.bindings situation.forest
      (λ join role found. at_outer place outer carried operator parts types (ready.apart.0 role) ready.items.0 behind joined join found situation)
      ∙ well_bound_parts_may_be_replaced setting operator (typed_parts parts) (joined_meanings context parts) types situation ready.well.0
      (parts_same situation.forest operator [] parts types joined)

  mutual
    all_joined : (e : PlanExpression) (types : Types) → IsReady e types → IsJoinedWell e types
    all_joined (At place outer carried operator parts) types ready =
        let behind : AreReady operator [] parts types =
        record { sound = ready.sound.1; well = ready.well.1; fair = ready.fair.1; apart = ready.apart.1; items = ready.items.1 } in
        let joined : AreJoinedWell operator [] parts types = all_parts_joined operator [] parts types behind in
        (same_here place outer carried operator parts types ready behind joined, joined)

    all_parts_joined : (operator : Operator) (before : List SequenceType) (parts : Parts Carried) (types : Types) → AreReady operator before parts types
        → AreJoinedWell operator before parts types
    all_parts_joined operator before no_parts types ready = tt
    all_parts_joined operator before (a_part first others) types ready = (
      all_joined first (setting.binders operator before ++ types)
          (record { sound = ready.sound.0; well = ready.well.0; fair = ready.fair.0; apart = ready.apart.0; items = ready.items.0 }),
      all_parts_joined operator (before ++ annotation_of (typed_expression first) ∷ []) others types
          (record { sound = ready.sound.1; well = ready.well.1; fair = ready.fair.1; apart = ready.apart.1; items = ready.items.1 }),
    )

pub fair_joins_are_hash_joins : FairJoinsAreHashJoins
fair_joins_are_hash_joins s variables known calls e types h =
    itself s variables known calls e types
    (all_joined s variables known calls e types (record { sound = h.sound; well = h.well_bound; fair = h.fair; apart = h.apart; items = h.items }))
