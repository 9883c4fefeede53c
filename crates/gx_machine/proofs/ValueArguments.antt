-- The atomic values of arguments, one behind another.
use Rattle.std.proofs.Common.{◌≡◌, ◌≤◌, ◌<◌, ◌+◌, ℕ, zero, suc, add-one, ◌++◌, ◌∷◌, [], List, Option, None, Some, refl, sym, ◌∙◌, ap, arith, drop, length, append_assoc, append-nil}
use Rattle.std.specs.Global.{Global}
use Rattle.std.specs.Prelude.{slice_get, Vec, Result, Ok, Err, IfOk, IfErr}
use Rattle.gx_facets.specs.declared.Atomic.{Atomic}
use Rattle.gx_types.specs.SchemaSet.{SchemaSet}
use Rattle.gx_funcs.specs.declared.function.Parameter.{Parameter}
use Rattle.gx_funcs.specs.declared.value_function.ValueFunction.{ValueFunction}
use Rattle.gx_funcs.specs.declared.value_function.ValueFunction.TheVariants as values
use Rattle.gx_funcs.specs.Function.{conversion_of, value_parameters_of}
use Rattle.gx_funcs.specs.Values.{value_answer}
use Rattle.gx_model.specs.Forest.{Forest}
use Rattle.gx_model.specs.Item.{Items}
use Rattle.gx_core.specs.Arguments.{argument_values, all_argument_values}
use Rattle.gx_core.specs.Calling.{value_called, answered}
use Rattle.gx_core.specs.Comparing.{atoms_among}
use Rattle.gx_core.specs.Outcome.{Outcome, gives, wrong, after, given}
use Rattle.gx_machine.specs.declared.failure.Failure.{Failure}
use Rattle.gx_machine.specs.Failing.{FailsSo}
use Rattle.gx_machine.proofs.Outcomes.{after_after, same_after}
use Rattle.gx_machine.proofs.Resuming.{fails_also, fails_through}

-- a function over atomic values has a parameter
pub no_argument_is_wrong : (s : SchemaSet) (function : ValueFunction) (forest : Forest) → value_called s function [] forest ≡ wrong
no_argument_is_wrong s values.Sum forest = refl
no_argument_is_wrong s values.Average forest = refl
no_argument_is_wrong s values.Min forest = refl
no_argument_is_wrong s values.Max forest = refl
no_argument_is_wrong s values.Abs forest = refl
no_argument_is_wrong s values.Floor forest = refl
no_argument_is_wrong s values.Ceiling forest = refl
no_argument_is_wrong s values.Round forest = refl
no_argument_is_wrong s values.SubstringFrom forest = refl
no_argument_is_wrong s values.Substring forest = refl
no_argument_is_wrong s values.Compare forest = refl
no_argument_is_wrong s values.Normalize forest = refl
no_argument_is_wrong s values.NormalizeTo forest = refl
no_argument_is_wrong s values.CodepointsToString forest = refl
no_argument_is_wrong s values.StringToCodepoints forest = refl
no_argument_is_wrong s values.DistinctValues forest = refl
no_argument_is_wrong s values.IndexOf forest = refl

-- the parameter with a number stands in front of those behind it
in_front : (ps : List Parameter) (number : ℕ) (p : Parameter) → slice_get ps number ≡ Some p → drop number ps ≡ p ∷ drop (suc number) ps
in_front [] zero p e = absurd (cc)
in_front [] (suc number) p e = absurd (cc)
in_front (q ∷ ps) zero p e = let same : q ≡ p = cc in ap (λ (r : Parameter). r ∷ ps) same
in_front (q ∷ ps) (suc number) p e = in_front ps number p e

pub parameter_in_front : (ps : List Parameter) (number : ℕ) (p : Parameter) → slice_get ps number ≡ Some p → drop number ps ≡ p ∷ drop (number + 1) ps
parameter_in_front ps number p e = in_front ps number p e ∙ ap (λ (n : ℕ). p ∷ drop n ps) (sym (add-one number))

pub parameter_is_within : (ps : List Parameter) (number : ℕ) (p : Parameter) → slice_get ps number ≡ Some p → number < length ps
parameter_is_within [] zero p e = absurd (cc)
parameter_is_within [] (suc number) p e = absurd (cc)
parameter_is_within (q ∷ ps) zero p e = omega arith
parameter_is_within (q ∷ ps) (suc number) p e = let l = parameter_is_within ps number p e in omega (arith, l)

pub no_parameter_left : (ps : List Parameter) (number : ℕ) → slice_get ps number ≡ None → drop number ps ≡ []
no_parameter_left [] zero e = refl
no_parameter_left [] (suc number) e = refl
no_parameter_left (q ∷ ps) zero e = absurd (cc)
no_parameter_left (q ∷ ps) (suc number) e = no_parameter_left ps number e

-- ---- the values of an argument

-- where the argument has items, and these are atomic values or not
pub atoms_seen : (r : Result (Vec Atomic Global) Failure) (o : Outcome Items) (ys : Items) (forest : Forest) → o ≡ gives ys forest → IfOk r (λ v. atoms_among ys ≡ Some v.items)
    → IfOk r (λ v. after o (λ xs left. given (atoms_among xs) (λ values. gives values left)) ≡ gives v.items forest)
atoms_seen (Ok v) o ys forest e h =
    ap (λ (p : Outcome Items). after p (λ xs left. given (atoms_among xs) (λ values. gives values left))) e ∙ ap (λ (found : Option (List Atomic)). given found (λ values. gives values forest)) h
atoms_seen (Err failure) o ys forest e h = tt

pub atoms_unseen : (r : Result (Vec Atomic Global) Failure) (o : Outcome Items) (ys : Items) (forest : Forest) (next : List Atomic → Forest → Outcome Items) → o ≡ gives ys forest
    → ((then : List Atomic → Outcome Items) → IfErr r (λ failure. FailsSo failure (given (atoms_among ys) then)))
    → IfErr r (λ failure. FailsSo failure (after (after o (λ xs left. given (atoms_among xs) (λ values. gives values left))) next))
atoms_unseen (Ok v) o ys forest next e h = tt
atoms_unseen (Err failure) o ys forest next e h =
    fails_also failure _ _ (ap (λ (p : Outcome Items). after (after p (λ xs left. given (atoms_among xs) (λ values. gives values left))) next) e ∙ inside (atoms_among ys)) (h (λ values. next values forest))
  where
    inside : (found : Option (List Atomic)) → after (given found (λ values. gives values forest)) next ≡ given found (λ values. next values forest)
    inside None = refl
    inside (Some values) = refl

-- where it has none
pub not_cast : (failure : Failure) (o : Outcome Items) (next : List Atomic → Forest → Outcome Items) → FailsSo failure o
    → FailsSo failure (after (after o (λ xs left. given (atoms_among xs) (λ values. gives values left))) next)
not_cast failure o next h =
    fails_also failure _ _ (sym (after_after o (λ xs left. given (atoms_among xs) (λ values. gives values left)) next))
    (fails_through o (λ xs left. after (given (atoms_among xs) (λ values. gives values left)) next) failure h)

pub not_typed : (failure : Failure) (forest : Forest) (found : Option Items) (next : List Atomic → Forest → Outcome Items) → FailsSo failure (given found (λ typed. gives typed forest))
    → FailsSo failure (after (after (given found (λ ys. gives ys forest)) (λ xs left. given (atoms_among xs) (λ values. gives values left))) next)
not_typed failure forest found next h = not_cast failure (given found (λ ys. gives ys forest)) next h

-- ---- arguments from the left

-- an argument behind those that have values
pub one_argument : (s : SchemaSet) (p : Parameter) (ps : List Parameter) (xs : Items) (values : List Atomic) (arguments : List Items) (done : List (List Atomic)) (forest : Forest)
    → argument_values (conversion_of p.takes) s xs forest ≡ gives values forest
    → after (all_argument_values s ps arguments forest) (λ others last. gives ((done ++ values ∷ []) ++ others) last) ≡ after (all_argument_values s (p ∷ ps) (xs ∷ arguments) forest) (λ all last. gives (done ++ all) last)
one_argument s p ps xs values arguments done forest e =
    same_after (all_argument_values s ps arguments forest) _ _ (λ others last. ap (λ (all : List (List Atomic)). gives all last) (append_assoc done (values ∷ []) others))
    ∙ after_after (all_argument_values s ps arguments forest) (λ others last. gives (values ∷ others) last) (λ all last. gives (done ++ all) last)
    ∙ sym (ap (λ (o : Outcome (List Atomic)). after (after o (λ found left. after (all_argument_values s ps arguments left) (λ others last. gives (found ∷ others) last))) (λ all last. gives (done ++ all) last)) e)

pub argument_fails : (s : SchemaSet) (p : Parameter) (ps : List Parameter) (xs : Items) (arguments : List Items) (forest : Forest) (e : Failure) (next : List (List Atomic) → Forest → Outcome Items)
    → ((then : List Atomic → Forest → Outcome Items) → FailsSo e (after (argument_values (conversion_of p.takes) s xs forest) then))
    → FailsSo e (after (all_argument_values s (p ∷ ps) (xs ∷ arguments) forest) next)
argument_fails s p ps xs arguments forest e next h =
    fails_also e _ _ (sym (after_after (argument_values (conversion_of p.takes) s xs forest) (λ found left. after (all_argument_values s ps arguments left) (λ others last. gives (found ∷ others) last)) next))
    (h (λ found left. after (after (all_argument_values s ps arguments left) (λ others last. gives (found ∷ others) last)) next))

-- what is so of the arguments that are left is so of all
pub so_far : (o all : Outcome (List (List Atomic))) (done : List (List Atomic)) (next : List (List Atomic) → Forest → Outcome Items) → after o (λ others left. gives (done ++ others) left) ≡ all
    → after all next ≡ after o (λ others left. next (done ++ others) left)
so_far o all done next e = sym (ap (λ (p : Outcome (List (List Atomic))). after p next) e) ∙ sym (after_after o (λ others left. gives (done ++ others) left) next)

-- an argument without a parameter, a parameter without an argument, and no more of both
pub no_parameter : (s : SchemaSet) (ps : List Parameter) (number : ℕ) (arguments : List Items) (xs : Items) (others : List Items) (forest : Forest) (next : List (List Atomic) → Forest → Outcome Items)
    → slice_get ps number ≡ None → arguments ≡ xs ∷ others → after (all_argument_values s (drop number ps) arguments forest) next ≡ wrong
no_parameter s ps number arguments xs others forest next e h = let none = no_parameter_left ps number e in λ i. after (all_argument_values s (none i) (h i) forest) next

pub some_left : (ps : List Parameter) (number : ℕ) → number ≤ length ps → (number ≡ length ps → ⊥) → (p : Parameter) × (rest : List Parameter) × (drop number ps ≡ p ∷ rest)
some_left [] zero l n = absurd (n refl)
some_left [] (suc number) l n = absurd (omega (arith, l))
some_left (p ∷ ps) zero l n = (p, ps, refl)
some_left (p ∷ ps) (suc number) l n = some_left ps number (omega (arith, l)) (λ e. n (ap suc e))

pub none_left : (ps : List Parameter) (number : ℕ) → number ≡ length ps → drop number ps ≡ []
none_left [] zero e = refl
none_left [] (suc number) e = refl
none_left (p ∷ ps) zero e = absurd (cc)
none_left (p ∷ ps) (suc number) e = none_left ps number (omega (arith, e))

pub no_argument : (s : SchemaSet) (ps : List Parameter) (number : ℕ) (arguments : List Items) (forest : Forest) (next : List (List Atomic) → Forest → Outcome Items)
    → number ≤ length ps → (number ≡ length ps → ⊥) → arguments ≡ [] → after (all_argument_values s (drop number ps) arguments forest) next ≡ wrong
no_argument s ps number arguments forest next l n h = let r = some_left ps number l n in λ i. after (all_argument_values s (r.2 i) (h i) forest) next

pub no_more : (s : SchemaSet) (ps : List Parameter) (number : ℕ) (arguments : List Items) (done : List (List Atomic)) (forest : Forest)
    → number ≡ length ps → arguments ≡ [] → after (all_argument_values s (drop number ps) arguments forest) (λ others left. gives (done ++ others) left) ≡ gives done forest
no_more s ps number arguments done forest e h =
    let none = none_left ps number e in (λ i. after (all_argument_values s (none i) (h i) forest) (λ others left. gives (done ++ others) left)) ∙ ap (λ (all : List (List Atomic)). gives all forest) (append-nil done)

-- ---- one argument

-- the only argument, of a function that has one parameter
pub only_argument : (s : SchemaSet) (function : ValueFunction) (p : Parameter) (xs : Items) (values : List Atomic) (forest : Forest) → slice_get (value_parameters_of function) 0 ≡ Some p
    → length (value_parameters_of function) ≡ 1 → argument_values (conversion_of p.takes) s xs forest ≡ gives values forest
    → value_called s function (xs ∷ []) forest ≡ given (value_answer function (values ∷ [])) (λ answer. answered answer forest)
only_argument s function p xs values forest f e h =
    let front = parameter_in_front (value_parameters_of function) 0 p f in
    let none = none_left (value_parameters_of function) 1 (sym e) in
    ap (λ (ps : List Parameter). after (all_argument_values s ps (xs ∷ []) forest) (λ found left. given (value_answer function found) (λ answer. answered answer left))) (front ∙ ap (λ (ps : List Parameter). p ∷ ps) none)
    ∙ ap (λ (o : Outcome (List Atomic)). after (after o (λ found left. gives (found ∷ []) left)) (λ found left. given (value_answer function found) (λ answer. answered answer left))) h

pub only_argument_fails : (s : SchemaSet) (function : ValueFunction) (p : Parameter) (xs : Items) (forest : Forest) (e : Failure) → slice_get (value_parameters_of function) 0 ≡ Some p
    → ((then : List Atomic → Forest → Outcome Items) → FailsSo e (after (argument_values (conversion_of p.takes) s xs forest) then)) → FailsSo e (value_called s function (xs ∷ []) forest)
only_argument_fails s function p xs forest e f h =
    let next : List (List Atomic) → Forest → Outcome Items = λ found left. given (value_answer function found) (λ answer. answered answer left) in
    let ps : List Parameter = value_parameters_of function in
    fails_also e _ _ (ap (λ (qs : List Parameter). after (all_argument_values s qs (xs ∷ []) forest) next) (parameter_in_front ps 0 p f))
    (argument_fails s p (drop 1 ps) xs [] forest e next h)

pub other_parameters : (s : SchemaSet) (function : ValueFunction) (p : Parameter) (xs : Items) (values : List Atomic) (forest : Forest) → slice_get (value_parameters_of function) 0 ≡ Some p
    → (length (value_parameters_of function) ≡ 1 → ⊥) → argument_values (conversion_of p.takes) s xs forest ≡ gives values forest → value_called s function (xs ∷ []) forest ≡ wrong
other_parameters s function p xs values forest f n h =
    let ps : List Parameter = value_parameters_of function in
    let next : List (List Atomic) → Forest → Outcome Items = λ found left. given (value_answer function found) (λ answer. answered answer left) in
    let front = parameter_in_front ps 0 p f in
    let some : 1 ≤ length ps = some_there ps p f in
    let r = some_left ps 1 some (λ e. n (sym e)) in
    ap (λ (qs : List Parameter). after (all_argument_values s qs (xs ∷ []) forest) next) (front ∙ ap (λ (qs : List Parameter). p ∷ qs) r.2)
    ∙ ap (λ (o : Outcome (List Atomic)). after (after o (λ found left. after (all_argument_values s (r.0 ∷ r.1) [] left) (λ others last. gives (found ∷ others) last))) next) h
  where
    some_there : (qs : List Parameter) (q : Parameter) → slice_get qs 0 ≡ Some q → 1 ≤ length qs
    some_there [] q g = absurd (cc)
    some_there (r ∷ qs) q g = omega arith
