-- A comparison fails with FORG0001 alone.
use Rattle.std.proofs.Common.{◌≡◌, Bool, true, false, cond, List, [], ◌∷◌, Option, Some, None, Result, Ok, Err, refl, sym, subst}
use Rattle.std.specs.Prelude.{map, option_map}
use Rattle.std.specs.declared.cmp.Ordering.{Ordering}
use Rattle.gx_facets.specs.declared.AtomValue.{AtomValue}
use Rattle.gx_facets.specs.declared.AtomValue.TheVariants.{Untyped, Truth}
use Rattle.gx_facets.specs.declared.Atomic.{Atomic}
use Rattle.gx_facets.specs.Value.{order_of}
use Rattle.gx_atomic.specs.declared.casting.CastError.{CastError}
use Rattle.gx_atomic.specs.declared.casting.CastError.TheVariants.{FORG0001}
use Rattle.gx_atomic.specs.declared.comparison.Op.{Op}
use Rattle.gx_atomic.specs.Comparison.{Decision, holds, facing, comparison_of_casts, pair_comparison, pair_decision, pairs_of, first_decision, general_comparison, is_decisive}
use Rattle.gx_atomic.specs.Laws.{ComparisonsFailInOneWay}
use Rattle.gx_atomic.proofs.BooleanText.{by_boolean}
use Rattle.gx_atomic.proofs.Decisions.{first_decision-cons}

abbrev FailsByText : Result AtomValue CastError → Type 0
FailsByText (Ok value) = Unit {0}
FailsByText (Err error) = error ≡ FORG0001

abbrev pub FailsInOneWay : Decision → Type 0
FailsInOneWay (Some (Err error)) = error ≡ FORG0001
FailsInOneWay (Some (Ok truth)) = Unit {0}
FailsInOneWay None = Unit {0}

facing_fails : (a b : AtomValue) → FailsByText (facing a b)
facing_fails (Untyped text) (Truth b) = by_boolean FailsByText (λ c. tt) refl text
facing_fails a b = tt

by_order : (op : Op) (order : Option Ordering) → FailsInOneWay (option_map (λ truth. Ok truth) (option_map (holds op) order))
by_order op None = tt
by_order op (Some order) = tt

casts_fail : (op : Op) (a b : Result AtomValue CastError) → FailsByText a → FailsByText b → FailsInOneWay (comparison_of_casts op a b)
casts_fail op (Ok a) (Ok b) f g = by_order op (order_of a b)
casts_fail op (Ok a) (Err e) f g = g
casts_fail op (Err e) b f g = f

pair_fails : (op : Op) (a b : AtomValue) → FailsInOneWay (pair_comparison op a b)
pair_fails op a b = casts_fail op (facing a b) (facing b a) (facing_fails a b) (facing_fails b a)

either_fails : (b : Bool) (d e : Decision) → FailsInOneWay d → FailsInOneWay e → FailsInOneWay (cond b d e)
either_fails true d e f g = f
either_fails false d e f g = g

pairs_fail : (op : Op) (pairs : List (Atomic × Atomic)) → FailsInOneWay (first_decision (map (pair_decision op) pairs))
pairs_fail op [] = tt
pairs_fail op (pair ∷ pairs) =
    let d = pair_decision op pair in
    let others = first_decision (map (pair_decision op) pairs) in
    subst FailsInOneWay (sym (first_decision-cons d (map (pair_decision op) pairs)))
    (either_fails (is_decisive d) d others (pair_fails op pair.0.value pair.1.value) (pairs_fail op pairs))

pub comparison_fails : (op : Op) (a b : List Atomic) → FailsInOneWay (general_comparison op a b)
comparison_fails op a b = pairs_fail op (pairs_of a b)

pub fails_in_one_way : ComparisonsFailInOneWay
fails_in_one_way op a b error e = subst FailsInOneWay e (comparison_fails op a b)
