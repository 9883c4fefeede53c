-- Calls of functions over atomic values with other numbers of arguments than they have.
use Rattle.std.proofs.Common.{◌≡◌, ◌≢◌, List, [], ◌∷◌, length, None, refl}
use Rattle.gx_facets.specs.declared.Atomic.{Atomic}
use Rattle.gx_funcs.specs.declared.value_function.ValueFunction.{ValueFunction}
use Rattle.gx_funcs.specs.declared.value_function.ValueFunction.TheVariants as values
use Rattle.gx_funcs.specs.Values.{value_answer}

none_of_no_argument : (function : ValueFunction) → value_answer function [] ≡ None
none_of_no_argument values.Sum = refl
none_of_no_argument _ = refl

none_of_four : (function : ValueFunction) (a b c d : List Atomic) (others : List (List Atomic)) → value_answer function (a ∷ b ∷ c ∷ d ∷ others) ≡ None
none_of_four values.Sum a b c d others = refl
none_of_four values.IndexOf a [] c d others = refl
none_of_four values.IndexOf a (b ∷ []) c d others = refl
none_of_four values.IndexOf a (b ∷ e ∷ f) c d others = refl
none_of_four _ a b c d others = refl

pub no_such_arity : (function : ValueFunction) (arguments : List (List Atomic)) → length arguments ≢ 1 → length arguments ≢ 2 → length arguments ≢ 3 → value_answer function arguments ≡ None
no_such_arity function [] one two three = none_of_no_argument function
no_such_arity function (a ∷ []) one two three = absurd (one refl)
no_such_arity function (a ∷ b ∷ []) one two three = absurd (two refl)
no_such_arity function (a ∷ b ∷ c ∷ []) one two three = absurd (three refl)
no_such_arity function (a ∷ b ∷ c ∷ d ∷ others) one two three = none_of_four function a b c d others
