-- Arguments that are converted quietly, one after the other.
use Rattle.std.proofs.Common.{◌≡◌, ℕ, zero, suc, ◌+◌, Bool, true, false, ◌&&◌, List, [], ◌∷◌, map, drop, length, slice_get, None, Some, refl, sym, ◌∙◌, ap, arith}
use Rattle.std.specs.Prelude.{unwrap_or}
use Rattle.gx_types.specs.SchemaSet.{SchemaSet}
use Rattle.gx_types.specs.SequenceType.{SequenceType}
use Rattle.gx_funcs.specs.declared.function.Parameter.{Parameter}
use Rattle.gx_funcs.specs.Function.{conversion_of}
use Rattle.gx_plan.specs.Plan.{PlanExpression, kind_carried}
use Rattle.gx_rules.specs.Guards.{is_converted_quietly, are_converted_quietly}

-- no parameter has the number
pub none_behind : (schemas : SchemaSet) (parameters : List Parameter) (number : ℕ) (arguments : List SequenceType)
    → slice_get parameters number ≡ None → are_converted_quietly schemas (drop number parameters) arguments ≡ true
none_behind schemas [] zero arguments h = refl
none_behind schemas [] (suc n) arguments h = refl
none_behind schemas (p ∷ ps) zero arguments h = absurd (cc)
none_behind schemas (p ∷ ps) (suc n) arguments h = none_behind schemas ps n arguments h

pub one_behind : (schemas : SchemaSet) (parameters : List Parameter) (number : ℕ) (parameter : Parameter) (argument : SequenceType)
    (arguments : List SequenceType) → slice_get parameters number ≡ Some parameter
    → are_converted_quietly schemas (drop number parameters) (argument ∷ arguments)
    ≡ is_converted_quietly schemas (conversion_of parameter.takes) argument && are_converted_quietly schemas (drop (suc number) parameters) arguments
one_behind schemas [] zero parameter argument arguments h = absurd (cc)
one_behind schemas [] (suc n) parameter argument arguments h = absurd (cc)
one_behind schemas (p ∷ ps) zero parameter argument arguments h =
    ap (λ (q : Parameter). is_converted_quietly schemas (conversion_of q.takes) argument && are_converted_quietly schemas ps arguments)
    (ap (λ found. unwrap_or found p) h)
one_behind schemas (p ∷ ps) (suc n) parameter argument arguments h = one_behind schemas ps n parameter argument arguments h

none_left : (schemas : SchemaSet) (parameters : List Parameter) → are_converted_quietly schemas parameters [] ≡ true
none_left schemas [] = refl
none_left schemas (p ∷ ps) = refl

-- no argument is left
pub none_is_left : (schemas : SchemaSet) (parameters : List Parameter) (number : ℕ) (left : List PlanExpression) (all : Bool) → length left ≡ 0
    → are_converted_quietly schemas (drop number parameters) (map kind_carried left) ≡ all → true ≡ all
none_is_left schemas parameters number [] all e h = sym (none_left schemas (drop number parameters)) ∙ h
none_is_left schemas parameters number (argument ∷ others) all e h = absurd (cc)

both : (schemas : SchemaSet) (parameters : List Parameter) (number : ℕ) (parameter : Parameter) (left others : List PlanExpression)
    (argument : PlanExpression) (all : Bool) → left ≡ argument ∷ others → slice_get parameters number ≡ Some parameter
    → are_converted_quietly schemas (drop number parameters) (map kind_carried left) ≡ all
    → is_converted_quietly schemas (conversion_of parameter.takes) (kind_carried argument)
    && are_converted_quietly schemas (drop (number + 1) parameters) (map kind_carried others) ≡ all
both schemas parameters number parameter left others argument all e found h =
    let n : number + 1 ≡ suc number = omega arith in
    ap (λ (m : ℕ). is_converted_quietly schemas (conversion_of parameter.takes) (kind_carried argument)
    && are_converted_quietly schemas (drop m parameters) (map kind_carried others)) n
    ∙ sym (one_behind schemas parameters number parameter (kind_carried argument) (map kind_carried others) found)
    ∙ ap (λ (es : List PlanExpression). are_converted_quietly schemas (drop number parameters) (map kind_carried es)) (sym e) ∙ h

-- the next argument is not converted quietly
pub one_fails : (schemas : SchemaSet) (parameters : List Parameter) (number : ℕ) (parameter : Parameter) (left others : List PlanExpression)
    (argument : PlanExpression) (all : Bool) → left ≡ argument ∷ others → slice_get parameters number ≡ Some parameter
    → are_converted_quietly schemas (drop number parameters) (map kind_carried left) ≡ all
    → is_converted_quietly schemas (conversion_of parameter.takes) (kind_carried argument) ≡ false → false ≡ all
one_fails schemas parameters number parameter left others argument all e found h fails =
    ap (λ b. b && are_converted_quietly schemas (drop (number + 1) parameters) (map kind_carried others)) (sym fails)
    ∙ both schemas parameters number parameter left others argument all e found h

-- it is, and then the others are asked
pub one_less : (schemas : SchemaSet) (parameters : List Parameter) (number : ℕ) (parameter : Parameter) (left others : List PlanExpression)
    (argument : PlanExpression) (all : Bool) → left ≡ argument ∷ others → slice_get parameters number ≡ Some parameter
    → are_converted_quietly schemas (drop number parameters) (map kind_carried left) ≡ all
    → is_converted_quietly schemas (conversion_of parameter.takes) (kind_carried argument) ≡ true
    → are_converted_quietly schemas (drop (number + 1) parameters) (map kind_carried others) ≡ all
one_less schemas parameters number parameter left others argument all e found h holds =
    ap (λ b. b && are_converted_quietly schemas (drop (number + 1) parameters) (map kind_carried others)) (sym holds)
    ∙ both schemas parameters number parameter left others argument all e found h
