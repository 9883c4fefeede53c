-- Comparisons of atomic values (XQuery 1.0, section 3.5).
use Rattle.std.specs.Prelude.{Bool, true, false, List, map, flat_map, find, Option, Some, None, option_map, unwrap_or, Result, Ok, Err}
use Rattle.std.specs.declared.cmp.Ordering.{Ordering}
use Rattle.std.specs.Ordering.{is_eq, is_ne, is_lt, is_le, is_gt, is_ge}
use Rattle.gx_facets.specs.declared.AtomValue.{AtomValue}
use Rattle.gx_facets.specs.declared.AtomValue.TheVariants.{Untyped, Truth}
use Rattle.gx_facets.specs.declared.Atomic.{Atomic}
use Rattle.gx_facets.specs.Value.{order_of}
use Rattle.gx_atomic.specs.declared.casting.CastError.{CastError}
use Rattle.gx_atomic.specs.declared.comparison.Op.{Op}
use Rattle.gx_atomic.specs.declared.comparison.Op.TheVariants.{Eq, Ne, Lt, Le, Gt, Ge}
use Rattle.gx_atomic.specs.Cast.{to_boolean}

-- the operator holds of two values in this order
abbrev pub holds : Op → Ordering → Bool
holds Eq order = is_eq order
holds Ne order = is_ne order
holds Lt order = is_lt order
holds Le order = is_le order
holds Gt order = is_gt order
holds Ge order = is_ge order

-- ---- value comparisons (3.5.1)

-- values of two families cannot be compared
abbrev pub value_comparison : Op → AtomValue → AtomValue → Option Bool
value_comparison op a b = option_map (holds op) (order_of a b)

-- values that cannot be compared are not equal
abbrev pub are_equal : AtomValue → AtomValue → Bool
are_equal a b = unwrap_or (value_comparison Eq a b) false

-- ---- general comparisons (3.5.2)

-- what the comparison of two lists, or of a pair, comes to: whether it holds, or the error of a cast, or nothing where two
-- values cannot be compared
abbrev pub Decision : Type 0
Decision = Option (Result Bool CastError)

-- a value as it is compared with another: an untyped value is cast to xs:boolean where the other is a boolean
abbrev pub facing : AtomValue → AtomValue → Result AtomValue CastError
facing (Untyped text) (Truth b) = to_boolean (Untyped text)
facing a b = Ok a

abbrev pub comparison_of_casts : Op → Result AtomValue CastError → Result AtomValue CastError → Decision
comparison_of_casts op (Ok a) (Ok b) = option_map (λ truth. Ok truth) (value_comparison op a b)
comparison_of_casts op (Ok a) (Err error) = Some (Err error)
comparison_of_casts op (Err error) b = Some (Err error)

abbrev pub pair_comparison : Op → AtomValue → AtomValue → Decision
pair_comparison op a b = comparison_of_casts op (facing a b) (facing b a)

-- the pairs of two lists, left item first
abbrev pub pairs_of : List Atomic → List Atomic → List (Atomic × Atomic)
pairs_of a b = flat_map (λ x. map (λ y. (x, y)) b) a

abbrev pub pair_decision : Op → Atomic × Atomic → Decision
pair_decision op pair = pair_comparison op pair.0.value pair.1.value

-- a pair decides unless its comparison is false
abbrev pub is_decisive : Decision → Bool
is_decisive (Some (Ok truth)) = truth
is_decisive (Some (Err error)) = true
is_decisive None = true

-- the first pair that decides does so, and where there is none the comparison is false
abbrev pub first_decision : List Decision → Decision
first_decision decisions = unwrap_or (find is_decisive decisions) (Some (Ok false))

abbrev pub general_comparison : Op → List Atomic → List Atomic → Decision
general_comparison op a b = first_decision (map (pair_decision op) (pairs_of a b))
