-- What a rule puts in the place of an expression names no variable that the expression does not name, makes nothing where that makes nothing,
-- and has joins that are apart where those of the expression are.
use Rattle.std.proofs.Common.{◌≡◌, ℕ, zero, suc, Bool, true, false, not, ◌&&◌, ◌||◌, nat_eq, Some, List, [], ◌∷◌, refl, subst}
use Rattle.std.proofs.lemmas.Bool.{and_parts, and_from, or_parts, or_from, not-true, eqb-true}
use Rattle.gx_base.specs.declared.place.Place.{Place}
use Rattle.gx_base.specs.declared.type_name.Builtin.TheVariants as builtins
use Rattle.gx_types.specs.SchemaSet.{SchemaSet}
use Rattle.gx_types.specs.SequenceType.{SequenceType}
use Rattle.gx_types.specs.declared.step.Axis.TheVariants as axes
use Rattle.gx_types.specs.declared.step.Test.{Test}
use Rattle.gx_types.specs.declared.step.Test.TheVariants as tests
use Rattle.gx_include.specs.Decision.{is_included}
use Rattle.gx_funcs.specs.declared.function.Function.TheVariants as functions
use Rattle.gx_core.specs.declared.expression.Binder.{Binder}
use Rattle.gx_core.specs.declared.expression.BinaryOp.TheVariants as binary
use Rattle.gx_core.specs.declared.operator.Operator.{Operator}
use Rattle.gx_core.specs.declared.operator.Operator.TheVariants as operators
use Rattle.gx_core.specs.Expression.{At, Parts, no_parts, a_part, one_part, two_parts, three_parts}
use Rattle.gx_core.specs.FreeVariables.{names_variable}
use Rattle.gx_growth_laws.specs.Steady.{operator_makes_nothing, makes_nothing, parts_make_nothing}
use Rattle.gx_static.specs.Rule.{atomic, is_at_most_one}
use Rattle.gx_plan.specs.declared.plan.Role.{Role}
use Rattle.gx_plan.specs.declared.plan.Role.TheVariants as roles
use Rattle.gx_plan.specs.declared.plan.Carried.{Carried}
use Rattle.gx_plan.specs.Plan.{PlanExpression, own, kind_carried, kinds_carried}
use Rattle.gx_rules.specs.Guards.{is_own_role, is_quiet_operator, is_quiet, are_quiet, is_flat, is_sorted, is_named_in, is_named_in_parts, are_keys_of_one_family}
use Rattle.gx_rules.specs.Rules.{RuleSetting, RewritingRule, One, Sorted, Flat, Slashes, Single, Decided, Idle, Joins, Loop, rewritten_by, made_kind, made_as, made_step, made_let, plain_binder, first_position, with_position, if_guarded, binds_alone, is_step_to_all_below, loop_over_descendants, descending_from, with_steps_below, without_order, slashes_over, any_atomic_values, occurs_once, may_be_joined, marked_loops, join_by_keys, join_by_test, join_by_loop}
use Rattle.gx_rule_laws.specs.ApartJoins.{IsApart, IsJoinApart, AreJoinsApart, JoinsInPartsAreApart}
use Rattle.gx_rule_laws.proofs.GuardLemmas.{met, given_if}
use Rattle.gx_rule_laws.proofs.SlashesStand.{over_source}

pub record KeepsApart (e other : PlanExpression) : Type 0 where
  pub names : (number : ℕ) → is_named_in e number ≡ false → is_named_in other number ≡ false
  pub nothing : makes_nothing e ≡ true → makes_nothing other ≡ true
  pub joins : AreJoinsApart e → AreJoinsApart other

-- the same of the parts of an operator that a rule makes
record PartsKeepApart (e : PlanExpression) (parts : Parts Carried) : Type 0 where
  names : (number : ℕ) → is_named_in e number ≡ false → is_named_in_parts parts number ≡ false
  nothing : makes_nothing e ≡ true → parts_make_nothing parts ≡ true
  joins : AreJoinsApart e → JoinsInPartsAreApart parts

-- ---- parts of what is given

kept_through : (e next other : PlanExpression) → KeepsApart e next → KeepsApart next other → KeepsApart e other
kept_through e next other first second = record {
  names = λ number h. second.names number (first.names number h);
  nothing = λ h. second.nothing (first.nothing h);
  joins = λ h. second.joins (first.joins h);
}

first_kept : (place outer : Place) (carried : Carried) (operator : Operator) (e : PlanExpression) (es : Parts Carried)
    → KeepsApart (At place outer carried operator (a_part e es)) e
first_kept place outer carried operator e es = record {
  names = λ number h. (or_parts (is_named_in e number) (is_named_in_parts es number)
      (or_parts (names_variable operator number) (is_named_in e number || is_named_in_parts es number) h).1).0;
  nothing = λ h. (and_parts (makes_nothing e) (parts_make_nothing es) (and_parts (operator_makes_nothing operator) (makes_nothing e && parts_make_nothing es) h).1).0;
  joins = λ h. h.1.0;
}

second_kept : (place outer : Place) (carried : Carried) (operator : Operator) (d e : PlanExpression) (es : Parts Carried)
    → KeepsApart (At place outer carried operator (a_part d (a_part e es))) e
second_kept place outer carried operator d e es = record {
  names = λ number h. (or_parts (is_named_in e number) (is_named_in_parts es number)
      (or_parts (is_named_in d number) (is_named_in e number || is_named_in_parts es number)
      (or_parts (names_variable operator number) (is_named_in d number || (is_named_in e number || is_named_in_parts es number)) h).1).1).0;
  nothing = λ h. (and_parts (makes_nothing e) (parts_make_nothing es)
      (and_parts (makes_nothing d) (makes_nothing e && parts_make_nothing es)
      (and_parts (operator_makes_nothing operator) (makes_nothing d && (makes_nothing e && parts_make_nothing es)) h).1).1).0;
  joins = λ h. h.1.1.0;
}

-- ---- operators that rules make

no_parts_kept : (e : PlanExpression) → PartsKeepApart e no_parts
no_parts_kept e = record { names = λ number h. refl; nothing = λ h. refl; joins = λ h. tt }

part_kept : (e first : PlanExpression) (others : Parts Carried) → KeepsApart e first → PartsKeepApart e others → PartsKeepApart e (a_part first others)
part_kept e first others h k = record {
  names = λ number f. or_from (is_named_in first number) (is_named_in_parts others number) (h.names number f) (k.names number f);
  nothing = λ f. and_from (makes_nothing first) (parts_make_nothing others) (h.nothing f) (k.nothing f);
  joins = λ f. (h.joins f, k.joins f);
}

two_kept : (e first second : PlanExpression) → KeepsApart e first → KeepsApart e second → PartsKeepApart e (two_parts first second)
two_kept e first second h k = part_kept e first (one_part second) h (part_kept e second no_parts k (no_parts_kept e))

operator_kept : (e : PlanExpression) (place : Place) (carried : Carried) (operator : Operator) (parts : Parts Carried)
    → ((number : ℕ) → is_named_in e number ≡ false → names_variable operator number ≡ false) → operator_makes_nothing operator ≡ true
    → (carried.role ≡ roles.Join → IsJoinApart (At place place carried operator parts)) → PartsKeepApart e parts
    → KeepsApart e (At place place carried operator parts)
operator_kept e place carried operator parts names nothing apart h = record {
  names = λ number f. or_from (names_variable operator number) (is_named_in_parts parts number) (names number f) (h.names number f);
  nothing = λ f. and_from (operator_makes_nothing operator) (parts_make_nothing parts) nothing (h.nothing f);
  joins = λ f. (apart, h.joins f);
}

own_kept : (e : PlanExpression) (place : Place) (kind : SequenceType) (operator : Operator) (parts : Parts Carried)
    → ((number : ℕ) → is_named_in e number ≡ false → names_variable operator number ≡ false) → operator_makes_nothing operator ≡ true
    → PartsKeepApart e parts → KeepsApart e (At place place (own kind) operator parts)
own_kept e place kind operator parts names nothing h = operator_kept e place (own kind) operator parts names nothing (λ marked. absurd (cc)) h

let_kept : (s : SchemaSet) (e : PlanExpression) (place : Place) (binder : Binder) (value body : PlanExpression) → KeepsApart e value → KeepsApart e body
    → KeepsApart e (made_let s place binder value body)
let_kept s e place binder value body h k =
    own_kept e place (made_kind s (operators.Let binder) (kinds_carried (two_parts value body))) (operators.Let binder) (two_parts value body) (λ number f. refl) refl
    (two_kept e value body h k)

position_kept : (s : SchemaSet) (e : PlanExpression) (place : Place) (position : ℕ) (body : PlanExpression) → KeepsApart e body
    → KeepsApart e (with_position s place position body)
position_kept s e place zero body h = h
position_kept s e place (suc n) body h =
    let_kept s e place (plain_binder (suc n) place) (first_position place) body
    (record { names = λ number f. refl; nothing = λ f. refl; joins = λ f. ((λ marked. absurd (cc)), tt) }) h

-- ---- what takes the place where a guard is met

guarded : (guard : Bool) (e given other : PlanExpression) → KeepsApart e given → if_guarded guard given ≡ Some other → KeepsApart e other
guarded guard e given other h g = subst (λ (d : PlanExpression). KeepsApart e d) (met guard given other g).1 h

one_kept : (setting : RuleSetting) (e other : PlanExpression) → rewritten_by setting One e ≡ Some other → KeepsApart e other
one_kept setting (At place outer carried operators.Order (a_part e no_parts)) other g =
    guarded (is_at_most_one (kind_carried e)) (At place outer carried operators.Order (a_part e no_parts)) e other (first_kept place outer carried operators.Order e no_parts) g
one_kept setting _ other g = absurd (cc)

sorted_kept : (setting : RuleSetting) (e other : PlanExpression) → rewritten_by setting Sorted e ≡ Some other → KeepsApart e other
sorted_kept setting (At place outer carried operators.Order (a_part e no_parts)) other g =
    guarded (is_sorted e) (At place outer carried operators.Order (a_part e no_parts)) e other (first_kept place outer carried operators.Order e no_parts) g
sorted_kept setting _ other g = absurd (cc)

flat_kept : (setting : RuleSetting) (e other : PlanExpression) → rewritten_by setting Flat e ≡ Some other → KeepsApart e other
flat_kept setting (At place outer carried operators.Order (a_part e no_parts)) other g =
    guarded (is_flat e) (At place outer carried operators.Order (a_part e no_parts)) e other (first_kept place outer carried operators.Order e no_parts) g
flat_kept setting _ other g = absurd (cc)

idle_kept : (setting : RuleSetting) (e other : PlanExpression) → rewritten_by setting Idle e ≡ Some other → KeepsApart e other
idle_kept setting (At place outer carried (operators.Call functions.Boolean) (a_part e no_parts)) other g =
    guarded (is_included setting.schemas (kind_carried e) (atomic builtins.Boolean)) (At place outer carried (operators.Call functions.Boolean) (a_part e no_parts)) e other
    (first_kept place outer carried (operators.Call functions.Boolean) e no_parts) g
idle_kept setting (At place outer carried operators.DataOf (a_part e no_parts)) other g =
    guarded (is_included setting.schemas (kind_carried e) any_atomic_values) (At place outer carried operators.DataOf (a_part e no_parts)) e other
    (first_kept place outer carried operators.DataOf e no_parts) g
idle_kept setting _ other g = absurd (cc)

single_kept : (setting : RuleSetting) (e other : PlanExpression) → rewritten_by setting Single e ≡ Some other → KeepsApart e other
single_kept setting (At place outer carried (operators.For binder position) (a_part source (a_part body no_parts))) other g =
    let e : PlanExpression = At place outer carried (operators.For binder position) (a_part source (a_part body no_parts)) in
    guarded (is_own_role carried.role && occurs_once (kind_carried source)) e
    (made_let setting.schemas place binder source (with_position setting.schemas place position body)) other
    (let_kept setting.schemas e place binder source (with_position setting.schemas place position body)
    (first_kept place outer carried (operators.For binder position) source (one_part body))
    (position_kept setting.schemas e place position body (second_kept place outer carried (operators.For binder position) source body no_parts))) g
single_kept setting _ other g = absurd (cc)

decided_kept : (setting : RuleSetting) (e other : PlanExpression) → rewritten_by setting Decided e ≡ Some other → KeepsApart e other
decided_kept setting (At place outer carried (operators.Switch [] default) (a_part operand (a_part branch no_parts))) other g =
    let e : PlanExpression = At place outer carried (operators.Switch [] default) (a_part operand (a_part branch no_parts)) in
    guarded true e (made_let setting.schemas place (plain_binder default place) operand branch) other
    (let_kept setting.schemas e place (plain_binder default place) operand branch
    (first_kept place outer carried (operators.Switch [] default) operand (one_part branch))
    (second_kept place outer carried (operators.Switch [] default) operand branch no_parts)) g
decided_kept setting (At place outer carried (operators.Switch (case ∷ cases) default) (a_part operand (a_part branch branches))) other g =
    let e : PlanExpression = At place outer carried (operators.Switch (case ∷ cases) default) (a_part operand (a_part branch branches)) in
    guarded (is_included setting.schemas (kind_carried operand) case.kind) e (made_let setting.schemas place (plain_binder case.variable place) operand branch) other
    (let_kept setting.schemas e place (plain_binder case.variable place) operand branch
    (first_kept place outer carried (operators.Switch (case ∷ cases) default) operand (a_part branch branches))
    (second_kept place outer carried (operators.Switch (case ∷ cases) default) operand branch branches)) g
decided_kept setting _ other g = absurd (cc)

-- ---- `//`

-- the step to the descendants names the variable that the step to all below named
step_kept : (setting : RuleSetting) (place : Place) (asks : Test) (variable : ℕ) (body : PlanExpression) → is_step_to_all_below variable body ≡ true
    → KeepsApart body (made_step setting place asks variable)
step_kept setting place asks variable (At p o c (operators.Step axes.DescendantOrSelf tests.Node number) no_parts) h = record {
  names = λ n f. or_from (nat_eq variable n) false
      (subst (λ (m : ℕ). nat_eq m n ≡ false) (eqb-true number variable h) (or_parts (nat_eq number n) false f).0) refl;
  nothing = λ f. refl;
  joins = λ f. ((λ marked. absurd (cc)), tt);
}
step_kept setting place asks variable _ h = absurd (cc)

descended_kept : (setting : RuleSetting) (place outer : Place) (carried : Carried) (asks : Test) (operator : Operator) (source body other : PlanExpression)
    → descending_from setting place asks (is_own_role carried.role) operator source body (binds_alone operator) ≡ Some other
    → KeepsApart (At place outer carried operator (a_part source (a_part body no_parts))) other
descended_kept setting place outer carried asks (operators.For binder zero) source body other g =
    let e : PlanExpression = At place outer carried (operators.For binder zero) (a_part source (a_part body no_parts)) in
    let step : PlanExpression = made_step setting place asks binder.variable in
    let guard = met (is_own_role carried.role && is_step_to_all_below binder.variable body)
    (loop_over_descendants setting place asks (operators.For binder zero) source binder) other g in
    let below = (and_parts (is_own_role carried.role) (is_step_to_all_below binder.variable body) guard.0).1 in
    subst (λ (d : PlanExpression). KeepsApart e d) guard.1
    (own_kept e place (made_kind setting.schemas (operators.For binder zero) (kinds_carried (two_parts source step))) (operators.For binder zero) (two_parts source step)
    (λ number f. refl) refl
    (two_kept e source step (first_kept place outer carried (operators.For binder zero) source (one_part body))
    (kept_through e body step (second_kept place outer carried (operators.For binder zero) source body no_parts)
    (step_kept setting place asks binder.variable body below))))
descended_kept setting place outer carried asks (operators.Let binder) source body other g =
    let e : PlanExpression = At place outer carried (operators.Let binder) (a_part source (a_part body no_parts)) in
    let step : PlanExpression = made_step setting place asks binder.variable in
    let guard = met (is_own_role carried.role && is_step_to_all_below binder.variable body)
    (loop_over_descendants setting place asks (operators.Let binder) source binder) other g in
    let below = (and_parts (is_own_role carried.role) (is_step_to_all_below binder.variable body) guard.0).1 in
    subst (λ (d : PlanExpression). KeepsApart e d) guard.1
    (let_kept setting.schemas e place binder source step (first_kept place outer carried (operators.Let binder) source (one_part body))
    (kept_through e body step (second_kept place outer carried (operators.Let binder) source body no_parts)
    (step_kept setting place asks binder.variable body below)))
descended_kept setting place outer carried asks _ source body other g = absurd (cc)

descends_kept : (setting : RuleSetting) (asks : Test) (e other : PlanExpression) → with_steps_below setting asks e ≡ Some other → KeepsApart e other
descends_kept setting asks (At place outer carried operator (a_part source (a_part body no_parts))) other g =
    descended_kept setting place outer carried asks operator source body other g
descends_kept setting asks _ other g = absurd (cc)

source_kept : (e : PlanExpression) → KeepsApart e (without_order e)
source_kept (At place outer carried operators.Order (a_part e no_parts)) = first_kept place outer carried operators.Order e no_parts
source_kept e = record { names = λ number h. h; nothing = λ h. h; joins = λ h. h }

slashes_kept : (setting : RuleSetting) (e other : PlanExpression) → rewritten_by setting Slashes e ≡ Some other → KeepsApart e other
slashes_kept setting (At place outer carried operators.Order (a_part (At p o c (operators.For binder zero) (a_part source (a_part body no_parts))) no_parts)) other g =
    let loop : PlanExpression = At p o c (operators.For binder zero) (a_part source (a_part body no_parts)) in
    let e : PlanExpression = At place outer carried operators.Order (a_part loop no_parts) in
    let over = given_if (is_own_role c.role) (slashes_over setting place binder.variable source body) other g in
    let order = over_source setting.schemas setting.variables place binder.variable source body other over.1 in
    let operand : PlanExpression = order.1.operand in
    let from : KeepsApart e (without_order source) =
    kept_through e source (without_order source)
    (kept_through e loop source (first_kept place outer carried operators.Order loop no_parts) (first_kept p o c (operators.For binder zero) source (one_part body)))
    (source_kept source) in
    subst (λ (d : PlanExpression). KeepsApart e d) order.1.is_made
    (own_kept e place (made_kind setting.schemas operators.Order (kinds_carried (one_part operand))) operators.Order (one_part operand) (λ number f. refl) refl
    (part_kept e operand no_parts (kept_through e (without_order source) operand from (descends_kept setting order.0 (without_order source) operand order.1.is_found))
    (no_parts_kept e)))
slashes_kept setting _ other g = absurd (cc)

-- ---- joins

quiet_operator_makes_nothing : (s : SchemaSet) (role : Role) (operator : Operator) (kinds : List SequenceType) → is_quiet_operator s role operator kinds ≡ true
    → operator_makes_nothing operator ≡ true
quiet_operator_makes_nothing s role (operators.Construct constructor count) kinds h = absurd (cc)
quiet_operator_makes_nothing s role (operators.User signature count) kinds h = absurd (cc)
quiet_operator_makes_nothing s role _ kinds h = refl

-- what is quiet makes nothing
mutual
  quiet_makes_nothing : (s : SchemaSet) (e : PlanExpression) → is_quiet s e ≡ true → makes_nothing e ≡ true
  quiet_makes_nothing s (At place outer carried operator parts) h =
      let p = and_parts (is_quiet_operator s carried.role operator (kinds_carried parts)) (are_quiet s parts) h in
      and_from (operator_makes_nothing operator) (parts_make_nothing parts) (quiet_operator_makes_nothing s carried.role operator (kinds_carried parts) p.0)
      (quiet_parts_make_nothing s parts p.1)

  quiet_parts_make_nothing : (s : SchemaSet) (parts : Parts Carried) → are_quiet s parts ≡ true → parts_make_nothing parts ≡ true
  quiet_parts_make_nothing s no_parts h = refl
  quiet_parts_make_nothing s (a_part first others) h =
      let p = and_parts (is_quiet s first) (are_quiet s others) h in
      and_from (makes_nothing first) (parts_make_nothing others) (quiet_makes_nothing s first p.0) (quiet_parts_make_nothing s others p.1)

-- what may be joined is apart
joined_apart : (s : SchemaSet) (left right : ℕ) (source left_key right_key : PlanExpression) → may_be_joined s left right source left_key right_key ≡ true
    → IsApart left right source left_key right_key
joined_apart s left right source left_key right_key h =
    let family : Bool = are_keys_of_one_family s (kind_carried left_key) (kind_carried right_key) in
    let all = and_parts (is_quiet s source && (is_quiet s left_key && is_quiet s right_key))
    ((not (is_named_in source left) && (not (is_named_in right_key left) && not (is_named_in left_key right))) && family) h in
    let quiet = and_parts (is_quiet s source) (is_quiet s left_key && is_quiet s right_key) all.0 in
    let quiet_keys = and_parts (is_quiet s left_key) (is_quiet s right_key) quiet.1 in
    let named = and_parts (not (is_named_in source left)) (not (is_named_in right_key left) && not (is_named_in left_key right))
    (and_parts (not (is_named_in source left) && (not (is_named_in right_key left) && not (is_named_in left_key right))) family all.1).0 in
    let named_in_keys = and_parts (not (is_named_in right_key left)) (not (is_named_in left_key right)) named.1 in record {
      source_makes_nothing = quiet_makes_nothing s source quiet.0;
      left_key_makes_nothing = quiet_makes_nothing s left_key quiet_keys.0;
      right_key_makes_nothing = quiet_makes_nothing s right_key quiet_keys.1;
      source_without_left = not-true (is_named_in source left) named.0;
      right_key_without_left = not-true (is_named_in right_key left) named_in_keys.0;
      left_key_without_right = not-true (is_named_in left_key right) named_in_keys.1;
    }

-- an operator of a join inside the outer loop
inside_kept : (s : SchemaSet) (e : PlanExpression) (place : Place) (operator : Operator) (parts : Parts Carried) → ((number : ℕ) → names_variable operator number ≡ false)
    → operator_makes_nothing operator ≡ true → PartsKeepApart e parts → KeepsApart e (made_as roles.InJoin s place operator parts)
inside_kept s e place operator parts names nothing h =
    operator_kept e place (record { kind = made_kind s operator (kinds_carried parts); role = roles.InJoin }) operator parts (λ number f. names number) nothing (λ marked. absurd (cc)) h

by_keys : (s : SchemaSet) (e : PlanExpression) (outer inner : Loop) (test absent : Place) (result comparison other : PlanExpression)
    → KeepsApart e outer.source → KeepsApart e inner.source → KeepsApart e result → KeepsApart e comparison
    → join_by_keys s outer inner test absent result comparison ≡ Some other → KeepsApart e other
by_keys s e outer inner test absent result (At place o c (operators.Binary binary.AnyEq) (a_part left_key (a_part right_key no_parts))) other of_outer of_inner of_result of_comparison h =
    let compared : PlanExpression = At place o c (operators.Binary binary.AnyEq) (a_part left_key (a_part right_key no_parts)) in
    let guard = met (may_be_joined s outer.binder.variable inner.binder.variable inner.source left_key right_key)
    (marked_loops s outer inner test place absent left_key right_key result) other h in
    let new_comparison : PlanExpression = made_as roles.InJoin s place (operators.Binary binary.AnyEq) (two_parts left_key right_key) in
    let new_empty : PlanExpression = made_as roles.InJoin s absent operators.Empty no_parts in
    let new_test : PlanExpression = made_as roles.InJoin s test operators.If (three_parts new_comparison result new_empty) in
    let new_loop : PlanExpression = made_as roles.InJoin s inner.place (operators.For inner.binder 0) (two_parts inner.source new_test) in
    let of_left : KeepsApart e left_key =
    kept_through e compared left_key of_comparison (first_kept place o c (operators.Binary binary.AnyEq) left_key (one_part right_key)) in
    let of_right : KeepsApart e right_key =
    kept_through e compared right_key of_comparison (second_kept place o c (operators.Binary binary.AnyEq) left_key right_key no_parts) in
    let comparison_kept : KeepsApart e new_comparison =
    inside_kept s e place (operators.Binary binary.AnyEq) (two_parts left_key right_key) (λ number. refl) refl (two_kept e left_key right_key of_left of_right) in
    let empty_kept : KeepsApart e new_empty = inside_kept s e absent operators.Empty no_parts (λ number. refl) refl (no_parts_kept e) in
    let test_kept : KeepsApart e new_test =
    inside_kept s e test operators.If (three_parts new_comparison result new_empty) (λ number. refl) refl
    (part_kept e new_comparison (two_parts result new_empty) comparison_kept (two_kept e result new_empty of_result empty_kept)) in
    let loop_kept : KeepsApart e new_loop =
    inside_kept s e inner.place (operators.For inner.binder 0) (two_parts inner.source new_test) (λ number. refl) refl (two_kept e inner.source new_test of_inner test_kept) in
    subst (λ (d : PlanExpression). KeepsApart e d) guard.1
    (operator_kept e outer.place
    (record { kind = made_kind s (operators.For outer.binder 0) (kinds_carried (two_parts outer.source new_loop)); role = roles.Join })
    (operators.For outer.binder 0) (two_parts outer.source new_loop) (λ number f. refl) refl
    (λ marked. (refl, (refl, (refl, (refl, joined_apart s outer.binder.variable inner.binder.variable inner.source left_key right_key guard.0)))))
    (two_kept e outer.source new_loop of_outer loop_kept))
by_keys s e outer inner test absent result _ other of_outer of_inner of_result of_comparison h = absurd (cc)

by_test : (s : SchemaSet) (e : PlanExpression) (outer inner : Loop) (body other : PlanExpression) → KeepsApart e outer.source → KeepsApart e inner.source → KeepsApart e body
    → join_by_test s outer inner body ≡ Some other → KeepsApart e other
by_test s e outer inner (At place o c operators.If (a_part comparison (a_part result (a_part (At absent ao ac operators.Empty no_parts) no_parts)))) other of_outer of_inner of_body h =
    let empty : PlanExpression = At absent ao ac operators.Empty no_parts in
    let body : PlanExpression = At place o c operators.If (three_parts comparison result empty) in
    by_keys s e outer inner place absent result comparison other of_outer of_inner
    (kept_through e body result of_body (second_kept place o c operators.If comparison result (one_part empty)))
    (kept_through e body comparison of_body (first_kept place o c operators.If comparison (two_parts result empty))) h
by_test s e outer inner _ other of_outer of_inner of_body h = absurd (cc)

by_loop : (s : SchemaSet) (e : PlanExpression) (outer : Loop) (body other : PlanExpression) → KeepsApart e outer.source → KeepsApart e body
    → join_by_loop s outer body ≡ Some other → KeepsApart e other
by_loop s e outer (At place o c (operators.For binder zero) (a_part source (a_part body no_parts))) other of_outer of_body h =
    let inner : Loop = record { place = place; binder = binder; source = source } in
    let loop : PlanExpression = At place o c (operators.For binder zero) (a_part source (a_part body no_parts)) in
    by_test s e outer inner body other of_outer
    (kept_through e loop source of_body (first_kept place o c (operators.For binder zero) source (one_part body)))
    (kept_through e loop body of_body (second_kept place o c (operators.For binder zero) source body no_parts))
    (given_if (is_own_role c.role) (join_by_test s outer inner body) other h).1
by_loop s e outer _ other of_outer of_body h = absurd (cc)

joins_kept : (setting : RuleSetting) (e other : PlanExpression) → rewritten_by setting Joins e ≡ Some other → KeepsApart e other
joins_kept setting (At place o c (operators.For binder zero) (a_part source (a_part body no_parts))) other g =
    let outer : Loop = record { place = place; binder = binder; source = source } in
    by_loop setting.schemas (At place o c (operators.For binder zero) (a_part source (a_part body no_parts))) outer body other
    (first_kept place o c (operators.For binder zero) source (one_part body)) (second_kept place o c (operators.For binder zero) source body no_parts)
    (given_if (is_own_role c.role) (join_by_loop setting.schemas outer body) other g).1
joins_kept setting _ other g = absurd (cc)

-- ---- all rules

pub rule_keeps_apart : (setting : RuleSetting) (rule : RewritingRule) (e other : PlanExpression) → rewritten_by setting rule e ≡ Some other → KeepsApart e other
rule_keeps_apart setting One e other g = one_kept setting e other g
rule_keeps_apart setting Sorted e other g = sorted_kept setting e other g
rule_keeps_apart setting Flat e other g = flat_kept setting e other g
rule_keeps_apart setting Slashes e other g = slashes_kept setting e other g
rule_keeps_apart setting Single e other g = single_kept setting e other g
rule_keeps_apart setting Decided e other g = decided_kept setting e other g
rule_keeps_apart setting Idle e other g = idle_kept setting e other g
rule_keeps_apart setting Joins e other g = joins_kept setting e other g
