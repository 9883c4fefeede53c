-- Rules hand on that loops take items of the types of their variables.
use Rattle.std.proofs.Common.{◌≡◌, ◌≢◌, ℕ, zero, suc, Bool, true, ◌&&◌, None, Some, List, [], ◌∷◌, ◌++◌, sym, subst}
use Rattle.gx_base.specs.declared.place.Place.{Place}
use Rattle.gx_base.specs.declared.type_name.Builtin.TheVariants as builtins
use Rattle.gx_types.specs.declared.step.Test.{Test}
use Rattle.gx_types.specs.SchemaSet.{SchemaSet}
use Rattle.gx_types.specs.SequenceType.{SequenceType}
use Rattle.gx_include.specs.Decision.{is_included}
use Rattle.gx_funcs.specs.declared.function.Function.TheVariants as functions
use Rattle.gx_core.specs.declared.expression.Binder.{Binder}
use Rattle.gx_core.specs.declared.expression.BinaryOp.TheVariants as binary
use Rattle.gx_core.specs.declared.operator.Operator.{Operator}
use Rattle.gx_core.specs.declared.operator.Operator.TheVariants as operators
use Rattle.gx_core.specs.declared.signature.FunctionSignature.{FunctionSignature}
use Rattle.gx_core.specs.Bindings.{Types, look_up, position_numbers}
use Rattle.gx_core.specs.Expression.{At, Parts, no_parts, a_part, one_part, two_parts, three_parts, annotation_of}
use Rattle.gx_core.specs.Meaning.{CallOutcomes}
use Rattle.gx_core.specs.Soundness.{Setting}
use Rattle.gx_static.specs.Rule.{atomic, is_at_most_one}
use Rattle.gx_plan.specs.declared.plan.Carried.{Carried}
use Rattle.gx_plan.specs.Plan.{PlanExpression, kind_carried, typed_expression}
use Rattle.gx_rules.specs.Guards.{is_own_role, is_flat, is_sorted}
use Rattle.gx_rules.specs.Rules.{RewritingRule, One, Sorted, Flat, Slashes, Single, Decided, Idle, Joins, rewritten_by, any_atomic_values, occurs_once, first_position, with_position, made_operator, made_let, made_step, plain_binder, binds_alone, is_step_to_all_below, loop_over_descendants, descending_from, with_steps_below, without_order, slashes_over, join_by_loop, join_by_test, join_by_keys, marked_loops, may_be_joined}
use Rattle.gx_rule_laws.specs.KeepingSoundness.{StandsInPlan, plan_rule_setting}
use Rattle.gx_rule_laws.specs.QuietValues.{carried_types, plan_setting}
use Rattle.gx_rule_laws.proofs.GuardLemmas.{met, given_if}
use Rattle.gx_rule_laws.proofs.LetsStand.{same_carried}
use Rattle.gx_rule_laws.proofs.Reordering.{SameTypes, fits_so, same_behind}
use Rattle.gx_rule_laws.proofs.SingleStands.{swapped}
use Rattle.gx_rule_laws.proofs.SlashesStand.{over_source}
use Rattle.gx_join_laws.specs.LoopItems.{TakesItems, LoopTakesItems, LoopsTakeItems, LoopsInPartsTakeItems}

-- a loop without position
abbrev loop_over : (place outer : Place) → Carried → Binder → (source body : PlanExpression) → PlanExpression
loop_over place outer carried binder source body = At place outer carried (operators.For binder zero) (two_parts source body)

-- ---- another order of variables

module _ (setting : Setting) (variables : Types) where
  takes_there : (binder : Binder) (source : PlanExpression) (types others : Types) → SameTypes types others → TakesItems setting variables binder source types
      → TakesItems setting variables binder source others
  takes_there binder source types others same h = record {
    t = h.t;
    carried = h.carried;
    items = λ situation. h.items (record {
      bindings = situation.bindings;
      forest = situation.forest;
      honest = situation.honest;
      fits = fits_so setting.schemas situation.forest others types situation.bindings (λ number. sym (same number)) situation.fits;
      calls_keep = situation.calls_keep;
    });
  }

  loop_there : (operator : Operator) (parts : Parts Carried) (types others : Types) → SameTypes types others → LoopTakesItems setting variables operator parts types
      → LoopTakesItems setting variables operator parts others
  loop_there (operators.For binder position) (a_part source rest) types others same h = takes_there binder source types others same h
  loop_there _ _ types others same h = tt

  mutual
    loops_there : (e : PlanExpression) (types others : Types) → SameTypes types others → LoopsTakeItems setting variables e types
        → LoopsTakeItems setting variables e others
    loops_there (At place outer carried operator parts) types others same h =
        (loop_there operator parts types others same h.0, parts_there operator [] parts types others same h.1)

    parts_there : (operator : Operator) (before : List SequenceType) (parts : Parts Carried) (types others : Types) → SameTypes types others
        → LoopsInPartsTakeItems setting variables operator before parts types → LoopsInPartsTakeItems setting variables operator before parts others
    parts_there operator before no_parts types others same h = tt
    parts_there operator before (a_part first rest) types others same h = (
      loops_there first (setting.binders operator before ++ types) (setting.binders operator before ++ others) (same_behind (setting.binders operator before) types others same) h.0,
      parts_there operator (before ++ annotation_of (typed_expression first) ∷ []) rest types others same h.1,
    )

module _ (s : SchemaSet) (variables : Types) (known : List FunctionSignature) (calls : CallOutcomes) where
  abbrev setting : Setting
  setting = plan_setting s variables known calls

  abbrev Stands : PlanExpression → Types → Type 0
  Stands e types = StandsInPlan s variables known calls e types

  abbrev Take : PlanExpression → Types → Type 0
  Take e types = LoopsTakeItems setting variables e types

  -- ---- what rules make

  let_takes : (place : Place) (binder : Binder) (value body : PlanExpression) (types : Types) → Take value types → Take body (carried_types variables (binder.variable ∷ []) ++ types)
      → Take (made_let s place binder value body) types
  let_takes place binder value body types first second = (tt, (first, (second, tt)))

  for_takes : (place : Place) (binder : Binder) (source body : PlanExpression) (types : Types) → TakesItems setting variables binder source types → Take source types
      → Take body (carried_types variables (binder.variable ∷ []) ++ types) → Take (made_operator s place (operators.For binder zero) (two_parts source body)) types
  for_takes place binder source body types items first second = (items, (first, (second, tt)))

  step_takes : (place : Place) (asks : Test) (variable : ℕ) (types : Types) → Take (made_step (plan_rule_setting s variables) place asks variable) types
  step_takes place asks variable types = (tt, tt)

  position_takes : (place : Place) (types : Types) → Take (first_position place) types
  position_takes place types = (tt, tt)

  order_takes : (place : Place) (e : PlanExpression) (types : Types) → Take e types → Take (made_operator s place operators.Order (one_part e)) types
  order_takes place e types h = (tt, (h, tt))

  body_takes : (place : Place) (variable position : ℕ) (body : PlanExpression) (types : Types) → position ≢ variable
      → Take body (carried_types variables (variable ∷ position_numbers position) ++ types) → Take (with_position s place position body) (carried_types variables (variable ∷ []) ++ types)
  body_takes place variable zero body types differ h = h
  body_takes place variable (suc n) body types differ h =
      let_takes place (plain_binder (suc n) place) (first_position place) body (carried_types variables (variable ∷ []) ++ types)
      (position_takes place (carried_types variables (variable ∷ []) ++ types))
      (loops_there setting variables body (carried_types variables (variable ∷ suc n ∷ []) ++ types) (carried_types variables (suc n ∷ []) ++ (carried_types variables (variable ∷ []) ++ types))
      (swapped variable (suc n) (λ e. differ (sym e)) (look_up variables variable) (look_up variables (suc n)) types) h)

  branch_takes : (number : ℕ) (e : PlanExpression) (types : Types) → look_up variables 0 ≡ None → Take e (carried_types variables (position_numbers number) ++ types)
      → Take e (carried_types variables (number ∷ []) ++ types)
  branch_takes number e types none h = subst (λ (us : Types). Take e (us ++ types)) (same_carried variables number none) h

  descended_takes : (place outer : Place) (carried : Carried) (asks : Test) (operator : Operator) (source body other : PlanExpression) (types : Types)
      → Take (At place outer carried operator (a_part source (a_part body no_parts))) types
      → descending_from (plan_rule_setting s variables) place asks (is_own_role carried.role) operator source body (binds_alone operator) ≡ Some other → Take other types
  descended_takes place outer carried asks (operators.For binder zero) source body other types h g =
      subst (λ (d : PlanExpression). Take d types) (met (is_own_role carried.role && is_step_to_all_below binder.variable body)
      (loop_over_descendants (plan_rule_setting s variables) place asks (operators.For binder zero) source binder) other g).1
      (for_takes place binder source (made_step (plan_rule_setting s variables) place asks binder.variable) types h.0 h.1.0
      (step_takes place asks binder.variable (carried_types variables (binder.variable ∷ []) ++ types)))
  descended_takes place outer carried asks (operators.Let binder) source body other types h g =
      subst (λ (d : PlanExpression). Take d types) (met (is_own_role carried.role && is_step_to_all_below binder.variable body)
      (loop_over_descendants (plan_rule_setting s variables) place asks (operators.Let binder) source binder) other g).1
      (let_takes place binder source (made_step (plan_rule_setting s variables) place asks binder.variable) types h.1.0
      (step_takes place asks binder.variable (carried_types variables (binder.variable ∷ []) ++ types)))
  descended_takes place outer carried asks _ source body other types h g = absurd (cc)

  descends_takes : (asks : Test) (e other : PlanExpression) (types : Types) → Take e types → with_steps_below (plan_rule_setting s variables) asks e ≡ Some other → Take other types
  descends_takes asks (At place outer carried operator (a_part source (a_part body no_parts))) other types h g =
      descended_takes place outer carried asks operator source body other types h g
  descends_takes asks _ other types h g = absurd (cc)

  source_takes : (e : PlanExpression) (types : Types) → Take e types → Take (without_order e) types
  source_takes (At place outer carried operators.Order (a_part e no_parts)) types h = h.1.0
  source_takes e types h = h

  -- ---- joins: the same loops, marked

  by_keys : (place o p1 o1 p2 o2 absent ao : Place) (c c1 c2 ac : Carried) (outer inner : Binder) (source other_source comparison result other : PlanExpression) (types : Types)
      → Take (loop_over place o c outer source (loop_over p1 o1 c1 inner other_source
      (At p2 o2 c2 operators.If (three_parts comparison result (At absent ao ac operators.Empty no_parts))))) types
      → join_by_keys s (record { place = place; binder = outer; source = source }) (record { place = p1; binder = inner; source = other_source }) p2 absent result comparison ≡ Some other
      → Take other types
  by_keys place o p1 o1 p2 o2 absent ao c c1 c2 ac outer inner source other_source (At p3 o3 c3 (operators.Binary binary.AnyEq) (a_part left (a_part right no_parts))) result other types h g =
      let guard = met (may_be_joined s outer.variable inner.variable other_source left right)
      (marked_loops s (record { place = place; binder = outer; source = source }) (record { place = p1; binder = inner; source = other_source }) p2 p3 absent left right result) other g in
      let loop = h.1.1.0 in
      let test = loop.1.1.0 in
      let compared = test.1.0 in
      subst (λ (d : PlanExpression). Take d types) guard.1
      (h.0, (h.1.0, ((loop.0, (loop.1.0, ((tt, ((tt, (compared.1.0, (compared.1.1.0, tt))), (test.1.1.0, ((tt, tt), tt)))), tt))), tt)))
  by_keys place o p1 o1 p2 o2 absent ao c c1 c2 ac outer inner source other_source _ result other types h g = absurd (cc)

  by_test : (place o p1 o1 : Place) (c c1 : Carried) (outer inner : Binder) (source other_source body other : PlanExpression) (types : Types)
      → Take (loop_over place o c outer source (loop_over p1 o1 c1 inner other_source body)) types
      → join_by_test s (record { place = place; binder = outer; source = source }) (record { place = p1; binder = inner; source = other_source }) body ≡ Some other → Take other types
  by_test place o p1 o1 c c1 outer inner source other_source
      (At p2 o2 c2 operators.If (a_part comparison (a_part result (a_part (At absent ao ac operators.Empty no_parts) no_parts)))) other types h g =
      by_keys place o p1 o1 p2 o2 absent ao c c1 c2 ac outer inner source other_source comparison result other types h g
  by_test place o p1 o1 c c1 outer inner source other_source _ other types h g = absurd (cc)

  by_loop : (place o : Place) (c : Carried) (outer : Binder) (source body other : PlanExpression) (types : Types) → Take (loop_over place o c outer source body) types
      → join_by_loop s (record { place = place; binder = outer; source = source }) body ≡ Some other → Take other types
  by_loop place o c outer source (At p1 o1 c1 (operators.For inner zero) (a_part other_source (a_part test no_parts))) other types h g =
      by_test place o p1 o1 c c1 outer inner source other_source test other types h
      (given_if (is_own_role c1.role)
      (join_by_test s (record { place = place; binder = outer; source = source }) (record { place = p1; binder = inner; source = other_source }) test) other g).1
  by_loop place o c outer source _ other types h g = absurd (cc)

  -- ---- all rules

  operand_takes : (guard : Bool) (place outer : Place) (carried : Carried) (e other : PlanExpression) (types : Types) → Take (At place outer carried operators.Order (a_part e no_parts)) types
      → (guard ≡ true) × (e ≡ other) → Take other types
  operand_takes guard place outer carried e other types h met_so = subst (λ (d : PlanExpression). Take d types) met_so.1 h.1.0

  one_takes : (e other : PlanExpression) (types : Types) → Take e types → rewritten_by (plan_rule_setting s variables) One e ≡ Some other → Take other types
  one_takes (At place outer carried operators.Order (a_part e no_parts)) other types h g =
      operand_takes (is_at_most_one (kind_carried e)) place outer carried e other types h (met (is_at_most_one (kind_carried e)) e other g)
  one_takes _ other types h g = absurd (cc)

  sorted_takes : (e other : PlanExpression) (types : Types) → Take e types → rewritten_by (plan_rule_setting s variables) Sorted e ≡ Some other → Take other types
  sorted_takes (At place outer carried operators.Order (a_part e no_parts)) other types h g =
      operand_takes (is_sorted e) place outer carried e other types h (met (is_sorted e) e other g)
  sorted_takes _ other types h g = absurd (cc)

  flat_takes : (e other : PlanExpression) (types : Types) → Take e types → rewritten_by (plan_rule_setting s variables) Flat e ≡ Some other → Take other types
  flat_takes (At place outer carried operators.Order (a_part e no_parts)) other types h g =
      operand_takes (is_flat e) place outer carried e other types h (met (is_flat e) e other g)
  flat_takes _ other types h g = absurd (cc)

  idle_takes : (e other : PlanExpression) (types : Types) → Take e types → rewritten_by (plan_rule_setting s variables) Idle e ≡ Some other → Take other types
  idle_takes (At place outer carried (operators.Call functions.Boolean) (a_part e no_parts)) other types h g =
      subst (λ (d : PlanExpression). Take d types) (met (is_included s (kind_carried e) (atomic builtins.Boolean)) e other g).1 h.1.0
  idle_takes (At place outer carried operators.DataOf (a_part e no_parts)) other types h g =
      subst (λ (d : PlanExpression). Take d types) (met (is_included s (kind_carried e) any_atomic_values) e other g).1 h.1.0
  idle_takes _ other types h g = absurd (cc)

  slashes_takes : (e other : PlanExpression) (types : Types) → Take e types → rewritten_by (plan_rule_setting s variables) Slashes e ≡ Some other → Take other types
  slashes_takes (At place outer carried operators.Order (a_part (At p o c (operators.For binder zero) (a_part source (a_part body no_parts))) no_parts)) other types h g =
      let over = given_if (is_own_role c.role) (slashes_over (plan_rule_setting s variables) place binder.variable source body) other g in
      let order = over_source s variables place binder.variable source body other over.1 in
      subst (λ (d : PlanExpression). Take d types) order.1.is_made
      (order_takes place order.1.operand types
      (descends_takes order.0 (without_order source) order.1.operand types (source_takes source types h.1.0.1.0) order.1.is_found))
  slashes_takes _ other types h g = absurd (cc)

  single_takes : (e other : PlanExpression) (types : Types) → Stands e types → Take e types → rewritten_by (plan_rule_setting s variables) Single e ≡ Some other → Take other types
  single_takes (At place outer carried (operators.For binder position) (a_part source (a_part body no_parts))) other types stands h g =
      subst (λ (d : PlanExpression). Take d types) (met (is_own_role carried.role && occurs_once (kind_carried source)) (made_let s place binder source (with_position s place position body)) other g).1
      (let_takes place binder source (with_position s place position body) types h.1.0
      (body_takes place binder.variable position body types stands.stands.regular.0 h.1.1.0))
  single_takes _ other types stands h g = absurd (cc)

  decided_takes : (e other : PlanExpression) (types : Types) → Stands e types → Take e types → rewritten_by (plan_rule_setting s variables) Decided e ≡ Some other → Take other types
  decided_takes (At place outer carried (operators.Switch [] default) (a_part operand (a_part branch no_parts))) other types stands h g =
      let same : made_let s place (plain_binder default place) operand branch ≡ other = cc in
      subst (λ (d : PlanExpression). Take d types) same
      (let_takes place (plain_binder default place) operand branch types h.1.0 (branch_takes default branch types stands.none_carries h.1.1.0))
  decided_takes (At place outer carried (operators.Switch (case ∷ cases) default) (a_part operand (a_part branch branches))) other types stands h g =
      subst (λ (d : PlanExpression). Take d types)
      (met (is_included s (kind_carried operand) case.kind) (made_let s place (plain_binder case.variable place) operand branch) other g).1
      (let_takes place (plain_binder case.variable place) operand branch types h.1.0 (branch_takes case.variable branch types stands.none_carries h.1.1.0))
  decided_takes _ other types stands h g = absurd (cc)

  joins_takes : (e other : PlanExpression) (types : Types) → Take e types → rewritten_by (plan_rule_setting s variables) Joins e ≡ Some other → Take other types
  joins_takes (At place o c (operators.For binder zero) (a_part source (a_part body no_parts))) other types h g =
      by_loop place o c binder source body other types h
      (given_if (is_own_role c.role) (join_by_loop s (record { place = place; binder = binder; source = source }) body) other g).1
  joins_takes _ other types h g = absurd (cc)

  pub rule_takes : (rule : RewritingRule) (e other : PlanExpression) (types : Types) → Stands e types → Take e types → rewritten_by (plan_rule_setting s variables) rule e ≡ Some other → Take other types
  rule_takes One e other types stands h g = one_takes e other types h g
  rule_takes Sorted e other types stands h g = sorted_takes e other types h g
  rule_takes Flat e other types stands h g = flat_takes e other types h g
  rule_takes Slashes e other types stands h g = slashes_takes e other types h g
  rule_takes Single e other types stands h g = single_takes e other types stands h g
  rule_takes Decided e other types stands h g = decided_takes e other types stands h g
  rule_takes Idle e other types stands h g = idle_takes e other types h g
  rule_takes Joins e other types stands h g = joins_takes e other types h g
