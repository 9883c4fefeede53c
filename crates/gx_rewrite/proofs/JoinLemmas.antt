-- Loops that are joins have a test, which has a comparison.
use Rattle.std.proofs.Common.{◌≡◌, ℕ, zero, Bool, true, false, ◌&&◌, ◌||◌, refl}
use Rattle.gx_core.specs.declared.expression.BinaryOp.TheVariants as binary
use Rattle.gx_base.specs.declared.place.Place.{Place}
use Rattle.gx_types.specs.SchemaSet.{SchemaSet}
use Rattle.gx_core.specs.declared.expression.Binder.{Binder}
use Rattle.gx_core.specs.declared.operator.Operator.TheVariants as operators
use Rattle.gx_core.specs.Expression.{At, no_parts, a_part}
use Rattle.gx_plan.specs.Plan.{PlanExpression, kind_carried}
use Rattle.gx_rules.specs.Guards.{is_own_role, is_flat}
use Rattle.gx_static.specs.Rule.{is_at_most_one}
use Rattle.gx_rewrite.specs.Shapes.{joins_by_loop, joins_by_test, joins_by_keys, is_empty_operator, is_binary, is_test_of_binary, is_loop_of_test, marked_join}

-- keys of other families
pub keys_fail : (quiet named keys : Bool) → keys ≡ false → quiet && (named && keys) ≡ false
keys_fail true true keys h = h
keys_fail true false keys h = refl
keys_fail false named keys h = refl

second_holds : (a b : Bool) → a && b ≡ true → b ≡ true
second_holds true b h = h
second_holds false b h = absurd (cc)

keys_are_compared : (schemas : SchemaSet) (left right : ℕ) (other comparison : PlanExpression)
    → joins_by_keys schemas left right other comparison ≡ true → is_binary comparison ≡ true
keys_are_compared schemas left right other (At place outer carried (operators.Binary binary.AnyEq) (a_part left_key (a_part right_key no_parts))) h = refl
keys_are_compared schemas left right other (At place outer carried _ _) h = absurd (cc)

tests_have_comparisons : (schemas : SchemaSet) (left right : ℕ) (other test : PlanExpression)
    → joins_by_test schemas left right other test ≡ true → is_test_of_binary test ≡ true
tests_have_comparisons schemas left right other (At place outer carried operators.If (a_part comparison (a_part result (a_part absent no_parts)))) h =
    keys_are_compared schemas left right other comparison (second_holds (is_empty_operator absent) _ h)
tests_have_comparisons schemas left right other (At place outer carried _ _) h = absurd (cc)

pub loops_have_tests : (schemas : SchemaSet) (left : ℕ) (body : PlanExpression) → joins_by_loop schemas left body ≡ true
    → is_loop_of_test body ≡ true
loops_have_tests schemas left (At place outer carried (operators.For binder zero) (a_part other (a_part test no_parts))) h =
    tests_have_comparisons schemas left binder.variable other test (second_holds (is_own_role carried.role) _ h)
loops_have_tests schemas left (At place outer carried _ _) h = absurd (cc)

and_false : (b : Bool) → b && false ≡ false
and_false true = refl
and_false false = refl

or_false : (a b : Bool) → b ≡ false → a || b ≡ a
or_false true b h = refl
or_false false b h = h

-- a join is flat where its type says so
pub joins_are_flat_by_type : (schemas : SchemaSet) (place : Place) (binder : Binder) (source body : PlanExpression) → is_loop_of_test body ≡ true
    → is_flat (marked_join schemas place binder source body) ≡ is_at_most_one (kind_carried (marked_join schemas place binder source body))
joins_are_flat_by_type schemas place binder source (At p o c (operators.For inner position) (a_part other (a_part test no_parts))) h =
    or_false _ _ (and_false (is_flat source))
joins_are_flat_by_type schemas place binder source (At p o c _ _) h = absurd (cc)
