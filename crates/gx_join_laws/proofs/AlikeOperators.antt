-- An operator comes to the same under two lists of bindings, but for type errors under the first, where its parts do behind all bindings.
use Rattle.std.proofs.Common.{◌≡◌, ◌⊎◌, inl, inr, ℕ, zero, suc, Bool, true, false, Option, None, Some, List, [], ◌∷◌, ◌++◌, length, map, drop, refl, sym, ap, append_assoc, nat_eq, if◌then◌else◌}
use Rattle.gx_facets.specs.declared.Atomic.{Atomic}
use Rattle.gx_sorting.specs.declared.keys.KeyOrder.{KeyOrder}
use Rattle.gx_types.specs.SchemaSet.{SchemaSet}
use Rattle.gx_model.specs.Forest.{Forest}
use Rattle.gx_model.specs.Item.{Item, Items}
use Rattle.gx_core.specs.declared.cases.TypeCase.{TypeCase}
use Rattle.gx_core.specs.declared.operator.ClauseKind.{ClauseKind}
use Rattle.gx_core.specs.declared.operator.ClauseKind.TheVariants as clauses
use Rattle.gx_core.specs.declared.operator.Operator.{Operator}
use Rattle.gx_core.specs.declared.operator.Operator.TheVariants as operators
use Rattle.gx_core.specs.Bindings.{look_up, position_bound}
use Rattle.gx_core.specs.FreeVariables.{names_variable}
use Rattle.gx_core.specs.Instances.{is_instance}
use Rattle.gx_core.specs.Outcome.{Outcome, gives, after, given}
use Rattle.gx_core.specs.Comparing.{truth_value, condition_of}
use Rattle.gx_core.specs.Paths.{stepped}
use Rattle.gx_core.specs.Blocks.{Tuple, key_of, tuple_keys, tuples_of_each, tuples_if, tuples_of, in_key_order, returned, block_returned}
use Rattle.gx_core.specs.Meaning.{Context, Bindings, Denotation, item_bound, acts, all_of, for_each, decides, any_decides, branch, switched, denoted}
use Rattle.gx_plan.specs.TypeErrors.{IsSameUnlessWrong}
use Rattle.gx_plan.proofs.UnlessWrong.{unless_after, unless_so}
use Rattle.std.proofs.lemmas.Bool.{eq-eqb}

-- ---- outcomes

pub unless_given : {R S : Type 0} (found : Option R) (next following : R → Outcome S) → ((x : R) → IsSameUnlessWrong (next x) (following x))
    → IsSameUnlessWrong (given found next) (given found following)
unless_given None next following h = inl refl
unless_given (Some x) next following h = h x

unless_either : {R : Type 0} (b : Bool) (one other more others : Outcome R) → IsSameUnlessWrong one other → IsSameUnlessWrong more others
    → IsSameUnlessWrong (if b then one else more) (if b then other else others)
unless_either true one other more others h k = h
unless_either false one other more others h k = k

unless_turns : (next following : ℕ → Item → Forest → Outcome Items) → ((number : ℕ) (x : Item) (now : Forest) → IsSameUnlessWrong (next number x now) (following number x now))
    → (number : ℕ) (done xs : Items) (forest : Forest) → IsSameUnlessWrong (for_each next number done xs forest) (for_each following number done xs forest)
unless_turns next following h number done [] forest = inr refl
unless_turns next following h number done (x ∷ xs) forest =
    unless_after (next number x forest) (following number x forest) (λ more left. for_each next (suc number) (done ++ more) xs left)
    (λ more left. for_each following (suc number) (done ++ more) xs left) (h number x forest)
    (λ more left. unless_turns next following h (suc number) (done ++ more) xs left)

unless_search : (decisive : Bool) (test following : Item → Forest → Outcome Items) → ((x : Item) (now : Forest) → IsSameUnlessWrong (test x now) (following x now))
    → (xs : Items) (forest : Forest) → IsSameUnlessWrong (any_decides decisive test xs forest) (any_decides decisive following xs forest)
unless_search decisive test following h [] forest = inr refl
unless_search decisive test following h (x ∷ xs) forest =
    unless_after (test x forest) (following x forest)
    (λ ys left. given (condition_of ys) (λ truth. if decides decisive truth then gives (truth_value decisive) left else any_decides decisive test xs left))
    (λ ys left. given (condition_of ys) (λ truth. if decides decisive truth then gives (truth_value decisive) left else any_decides decisive following xs left))
    (h x forest)
    (λ ys left. unless_given (condition_of ys)
    (λ truth. if decides decisive truth then gives (truth_value decisive) left else any_decides decisive test xs left)
    (λ truth. if decides decisive truth then gives (truth_value decisive) left else any_decides decisive following xs left)
    (λ truth. unless_either (decides decisive truth) (gives (truth_value decisive) left) (gives (truth_value decisive) left)
    (any_decides decisive test xs left) (any_decides decisive following xs left) (inr refl) (unless_search decisive test following h xs left)))

unless_each : (next following : ℕ → Item → Forest → Outcome (List Tuple))
    → ((number : ℕ) (x : Item) (now : Forest) → IsSameUnlessWrong (next number x now) (following number x now))
    → (number : ℕ) (xs : Items) (forest : Forest) → IsSameUnlessWrong (tuples_of_each next number xs forest) (tuples_of_each following number xs forest)
unless_each next following h number [] forest = inr refl
unless_each next following h number (x ∷ xs) forest =
    unless_after (next number x forest) (following number x forest)
    (λ found left. after (tuples_of_each next (suc number) xs left) (λ others last. gives (found ++ others) last))
    (λ found left. after (tuples_of_each following (suc number) xs left) (λ others last. gives (found ++ others) last)) (h number x forest)
    (λ found left. unless_after (tuples_of_each next (suc number) xs left) (tuples_of_each following (suc number) xs left)
    (λ others last. gives (found ++ others) last) (λ others last. gives (found ++ others) last)
    (unless_each next following h (suc number) xs left) (λ others last. inr refl))

unless_if : (truth : Bool) (found other : Forest → Outcome (List Tuple)) → ((now : Forest) → IsSameUnlessWrong (found now) (other now)) → (forest : Forest)
    → IsSameUnlessWrong (tuples_if truth found forest) (tuples_if truth other forest)
unless_if true found other h forest = h forest
unless_if false found other h forest = inr refl

-- ---- two lists of bindings

-- a part comes to the same behind all bindings, but for type errors under the first list
abbrev pub IsAlike : (bindings others : Bindings) → Denotation → Type 0
IsAlike bindings others part = (bound : Bindings) (forest : Forest) → IsSameUnlessWrong (part (bound ++ bindings) forest) (part (bound ++ others) forest)

abbrev pub AreAlike : (bindings others : Bindings) → List Denotation → Type 0
AreAlike bindings others [] = Unit {0}
AreAlike bindings others (part ∷ parts) = IsAlike bindings others part × AreAlike bindings others parts

-- a variable is bound under the second list as under the first, if it is bound under that
abbrev pub IsBoundAlike : (bindings others : Bindings) → ℕ → Type 0
IsBoundAlike bindings others number = (look_up bindings number ≡ None) ⊎ (look_up bindings number ≡ look_up others number)

pub alike_behind : (bound bindings others : Bindings) (part : Denotation) → IsAlike bindings others part → IsAlike (bound ++ bindings) (bound ++ others) part
alike_behind bound bindings others part h inner forest =
    unless_so (part (inner ++ (bound ++ bindings)) forest) (part (inner ++ (bound ++ others)) forest) (part ((inner ++ bound) ++ bindings) forest)
    (part ((inner ++ bound) ++ others) forest) (ap (λ (b : Bindings). part b forest) (sym (append_assoc inner bound bindings)))
    (ap (λ (b : Bindings). part b forest) (sym (append_assoc inner bound others))) (h (inner ++ bound) forest)

all_alike_behind : (bound bindings others : Bindings) (parts : List Denotation) → AreAlike bindings others parts → AreAlike (bound ++ bindings) (bound ++ others) parts
all_alike_behind bound bindings others [] h = tt
all_alike_behind bound bindings others (part ∷ parts) h = (alike_behind bound bindings others part h.0, all_alike_behind bound bindings others parts h.1)

bound_alike_behind : (bound bindings others : Bindings) (number : ℕ) → IsBoundAlike bindings others number → IsBoundAlike (bound ++ bindings) (bound ++ others) number
bound_alike_behind [] bindings others number h = h
bound_alike_behind (b ∷ bound) bindings others number h = by_test (nat_eq b.0 number) (bound_alike_behind bound bindings others number h)
  where
    by_test : (same : Bool) → IsBoundAlike (bound ++ bindings) (bound ++ others) number
        → ((if same then Some b.1 else look_up (bound ++ bindings) number) ≡ None)
        ⊎ ((if same then Some b.1 else look_up (bound ++ bindings) number) ≡ (if same then Some b.1 else look_up (bound ++ others) number))
    by_test true k = inr refl
    by_test false k = k

-- ---- operators

module _ (bindings others : Bindings) where
  values_alike : (ds : List Denotation) → AreAlike bindings others ds → (forest : Forest) → IsSameUnlessWrong (all_of ds bindings forest) (all_of ds others forest)
  values_alike [] h forest = inr refl
  values_alike (d ∷ ds) h forest =
      unless_after (d bindings forest) (d others forest)
      (λ value left. after (all_of ds bindings left) (λ values last. gives (value ∷ values) last))
      (λ value left. after (all_of ds others left) (λ values last. gives (value ∷ values) last)) (h.0 [] forest)
      (λ value left. unless_after (all_of ds bindings left) (all_of ds others left) (λ values last. gives (value ∷ values) last)
      (λ values last. gives (value ∷ values) last) (values_alike ds h.1 left) (λ values last. inr refl))

  strict_alike : (context : Context) (operator : Operator) (ds : List Denotation) → AreAlike bindings others ds → (forest : Forest)
      → IsSameUnlessWrong (after (all_of ds bindings forest) (acts context operator)) (after (all_of ds others forest) (acts context operator))
  strict_alike context operator ds h forest =
      unless_after (all_of ds bindings forest) (all_of ds others forest) (acts context operator) (acts context operator) (values_alike ds h forest)
      (λ values left. inr refl)

  branch_alike : (truth : Bool) (b d : Denotation) (forest : Forest) → IsAlike bindings others b → IsAlike bindings others d
      → IsSameUnlessWrong (branch truth b d bindings forest) (branch truth b d others forest)
  branch_alike true b d forest h k = h [] forest
  branch_alike false b d forest h k = k [] forest

  switched_alike : (s : SchemaSet) (cases : List TypeCase) (default : ℕ) (ds : List Denotation) → AreAlike bindings others ds → (xs : Items) (forest : Forest)
      → IsSameUnlessWrong (switched s cases default ds xs bindings forest) (switched s cases default ds xs others forest)
  switched_alike s [] default [] h xs forest = inl refl
  switched_alike s [] default (d ∷ []) h xs forest = h.0 (position_bound default xs) forest
  switched_alike s [] default (d ∷ c ∷ ds) h xs forest = inl refl
  switched_alike s (case ∷ cases) default [] h xs forest = inl refl
  switched_alike s (case ∷ cases) default (d ∷ ds) h xs forest =
      unless_either (is_instance s forest case.kind xs) (d (position_bound case.variable xs ++ bindings) forest) (d (position_bound case.variable xs ++ others) forest)
      (switched s cases default ds xs bindings forest) (switched s cases default ds xs others forest) (h.0 (position_bound case.variable xs) forest)
      (switched_alike s cases default ds h.1 xs forest)

  -- ---- blocks

  keys_alike : (orders : List KeyOrder) (ds : List Denotation) → AreAlike bindings others ds → (bound : Bindings) (forest : Forest)
      → IsSameUnlessWrong (tuple_keys orders ds (bound ++ bindings) forest) (tuple_keys orders ds (bound ++ others) forest)
  keys_alike [] ds h bound forest = inr refl
  keys_alike (order ∷ orders) [] h bound forest = inl refl
  keys_alike (order ∷ orders) (d ∷ ds) h bound forest =
      let next : Bindings → Forest → Option Atomic → Outcome (List (Option Atomic)) =
      λ outer left key. after (tuple_keys orders ds (bound ++ outer) left) (λ keys last. gives (key ∷ keys) last) in
      unless_after (d (bound ++ bindings) forest) (d (bound ++ others) forest) (λ xs left. given (key_of xs) (next bindings left))
      (λ xs left. given (key_of xs) (next others left)) (h.0 bound forest)
      (λ xs left. unless_given (key_of xs) (next bindings left) (next others left)
      (λ key. unless_after (tuple_keys orders ds (bound ++ bindings) left) (tuple_keys orders ds (bound ++ others) left) (λ keys last. gives (key ∷ keys) last)
      (λ keys last. gives (key ∷ keys) last) (keys_alike orders ds h.1 bound left) (λ keys last. inr refl)))

  tuples_alike : (kinds : List ClauseKind) (orders : List KeyOrder) (ds : List Denotation) → AreAlike bindings others ds → (bound : Bindings) (forest : Forest)
      → IsSameUnlessWrong (tuples_of kinds orders ds bound bindings forest) (tuples_of kinds orders ds bound others forest)
  tuples_alike [] orders ds h bound forest =
      unless_after (tuple_keys orders ds (bound ++ bindings) forest) (tuple_keys orders ds (bound ++ others) forest)
      (λ keys left. gives (record { keys = keys; bound = bound } ∷ []) left) (λ keys left. gives (record { keys = keys; bound = bound } ∷ []) left)
      (keys_alike orders ds h bound forest) (λ keys left. inr refl)
  tuples_alike (kind ∷ kinds) orders [] h bound forest = inl refl
  tuples_alike (clauses.For binder position ∷ kinds) orders (d ∷ ds) h bound forest =
      let found : Bindings → ℕ → Item → Forest → Outcome (List Tuple) =
      λ outer number x now. tuples_of kinds orders ds (item_bound binder.variable position number x ++ bound) outer now in
      unless_after (d (bound ++ bindings) forest) (d (bound ++ others) forest) (λ xs left. tuples_of_each (found bindings) 1 xs left)
      (λ xs left. tuples_of_each (found others) 1 xs left) (h.0 bound forest)
      (λ xs left. unless_each (found bindings) (found others)
      (λ number x now. tuples_alike kinds orders ds h.1 (item_bound binder.variable position number x ++ bound) now) 1 xs left)
  tuples_alike (clauses.Let binder ∷ kinds) orders (d ∷ ds) h bound forest =
      unless_after (d (bound ++ bindings) forest) (d (bound ++ others) forest)
      (λ xs left. tuples_of kinds orders ds ((binder.variable, xs) ∷ bound) bindings left)
      (λ xs left. tuples_of kinds orders ds ((binder.variable, xs) ∷ bound) others left) (h.0 bound forest)
      (λ xs left. tuples_alike kinds orders ds h.1 ((binder.variable, xs) ∷ bound) left)
  tuples_alike (clauses.Where ∷ kinds) orders (d ∷ ds) h bound forest =
      let next : Bindings → Forest → Bool → Outcome (List Tuple) =
      λ outer left truth. tuples_if truth (λ now. tuples_of kinds orders ds bound outer now) left in
      unless_after (d (bound ++ bindings) forest) (d (bound ++ others) forest) (λ xs left. given (condition_of xs) (next bindings left))
      (λ xs left. given (condition_of xs) (next others left)) (h.0 bound forest)
      (λ xs left. unless_given (condition_of xs) (next bindings left) (next others left)
      (λ truth. unless_if truth (λ now. tuples_of kinds orders ds bound bindings now) (λ now. tuples_of kinds orders ds bound others now)
      (λ now. tuples_alike kinds orders ds h.1 bound now) left))

  returned_alike : (body : Denotation) → IsAlike bindings others body → (done : Items) (tuples : List Bindings) (forest : Forest)
      → IsSameUnlessWrong (returned body bindings done tuples forest) (returned body others done tuples forest)
  returned_alike body h done [] forest = inr refl
  returned_alike body h done (bound ∷ tuples) forest =
      unless_after (body (bound ++ bindings) forest) (body (bound ++ others) forest) (λ more left. returned body bindings (done ++ more) tuples left)
      (λ more left. returned body others (done ++ more) tuples left) (h bound forest)
      (λ more left. returned_alike body h (done ++ more) tuples left)

  block_returned_alike : (orders : List KeyOrder) (ds : List Denotation) → AreAlike bindings others ds → (tuples : List Tuple) (forest : Forest)
      → IsSameUnlessWrong (block_returned orders ds bindings tuples forest) (block_returned orders ds others tuples forest)
  block_returned_alike orders [] h tuples forest = inl refl
  block_returned_alike orders (d ∷ []) h tuples forest = returned_alike d h.0 [] (map (λ t. t.bound) (in_key_order orders tuples)) forest
  block_returned_alike orders (d ∷ c ∷ ds) h tuples forest = inl refl

  those_behind_alike : (n : ℕ) (ds : List Denotation) → AreAlike bindings others ds → AreAlike bindings others (drop n ds)
  those_behind_alike zero ds h = h
  those_behind_alike (suc n) [] h = h
  those_behind_alike (suc n) (d ∷ ds) h = those_behind_alike n ds h.1

  -- ---- all operators

  found_alike : {S : Type 0} (one other : Option Items) (next : Items → Outcome S) → (one ≡ None) ⊎ (one ≡ other)
      → IsSameUnlessWrong (given one next) (given other next)
  found_alike {S = S} one other next (inl e) = inl (ap (λ (o : Option Items). given o next) e)
  found_alike {S = S} one other next (inr e) = inr (ap (λ (o : Option Items). given o next) e)

  here_alike : (context : Context) (operator : Operator) (ds : List Denotation)
      → ((number : ℕ) → names_variable operator number ≡ true → IsBoundAlike bindings others number) → AreAlike bindings others ds → (forest : Forest)
      → IsSameUnlessWrong (denoted context operator ds bindings forest) (denoted context operator ds others forest)
  here_alike context (operators.Var number) [] named h forest =
      found_alike (look_up bindings number) (look_up others number) (λ value. gives value forest) (named number (eq-eqb number number refl))
  here_alike context (operators.Var number) (d ∷ ds) named h forest = strict_alike context (operators.Var number) (d ∷ ds) h forest
  here_alike context (operators.Step axis asks number) [] named h forest =
      found_alike (look_up bindings number) (look_up others number) (λ value. stepped context.schemas axis asks value forest) (named number (eq-eqb number number refl))
  here_alike context (operators.Step axis asks number) (d ∷ ds) named h forest = strict_alike context (operators.Step axis asks number) (d ∷ ds) h forest
  here_alike context (operators.For binder position) (a ∷ b ∷ []) named h forest =
      let turn : Bindings → ℕ → Item → Forest → Outcome Items = λ outer number x now. b (item_bound binder.variable position number x ++ outer) now in
      unless_after (a bindings forest) (a others forest) (λ xs left. for_each (turn bindings) 1 [] xs left) (λ xs left. for_each (turn others) 1 [] xs left)
      (h.0 [] forest)
      (λ xs left. unless_turns (turn bindings) (turn others) (λ number x now. h.1.0 (item_bound binder.variable position number x) now) 1 [] xs left)
  here_alike context (operators.For binder position) _ named h forest = inl refl
  here_alike context (operators.SomeIn binder) (a ∷ b ∷ []) named h forest =
      let test : Bindings → Item → Forest → Outcome Items = λ outer x now. b ((binder.variable, x ∷ []) ∷ outer) now in
      unless_after (a bindings forest) (a others forest) (λ xs left. any_decides true (test bindings) xs left) (λ xs left. any_decides true (test others) xs left)
      (h.0 [] forest) (λ xs left. unless_search true (test bindings) (test others) (λ x now. h.1.0 ((binder.variable, x ∷ []) ∷ []) now) xs left)
  here_alike context (operators.SomeIn binder) _ named h forest = inl refl
  here_alike context (operators.EveryIn binder) (a ∷ b ∷ []) named h forest =
      let test : Bindings → Item → Forest → Outcome Items = λ outer x now. b ((binder.variable, x ∷ []) ∷ outer) now in
      unless_after (a bindings forest) (a others forest) (λ xs left. any_decides false (test bindings) xs left) (λ xs left. any_decides false (test others) xs left)
      (h.0 [] forest) (λ xs left. unless_search false (test bindings) (test others) (λ x now. h.1.0 ((binder.variable, x ∷ []) ∷ []) now) xs left)
  here_alike context (operators.EveryIn binder) _ named h forest = inl refl
  here_alike context (operators.Let binder) (a ∷ b ∷ []) named h forest =
      unless_after (a bindings forest) (a others forest) (λ xs left. b ((binder.variable, xs) ∷ bindings) left)
      (λ xs left. b ((binder.variable, xs) ∷ others) left) (h.0 [] forest) (λ xs left. h.1.0 ((binder.variable, xs) ∷ []) left)
  here_alike context (operators.Let binder) _ named h forest = inl refl
  here_alike context (operators.Switch cases default) [] named h forest = inl refl
  here_alike context (operators.Switch cases default) (d ∷ ds) named h forest =
      unless_after (d bindings forest) (d others forest) (λ xs left. switched context.schemas cases default ds xs bindings left)
      (λ xs left. switched context.schemas cases default ds xs others left) (h.0 [] forest)
      (λ xs left. switched_alike context.schemas cases default ds h.1 xs left)
  here_alike context (operators.Block kinds orders) ds named h forest =
      let behind : List Denotation = drop (length orders) (drop (length kinds) ds) in
      unless_after (tuples_of kinds orders ds [] bindings forest) (tuples_of kinds orders ds [] others forest)
      (block_returned orders behind bindings) (block_returned orders behind others) (tuples_alike kinds orders ds h [] forest)
      (λ tuples left. block_returned_alike orders behind (those_behind_alike (length orders) (drop (length kinds) ds) (those_behind_alike (length kinds) ds h)) tuples left)
  here_alike context operators.If (a ∷ b ∷ d ∷ []) named h forest =
      unless_after (a bindings forest) (a others forest) (λ xs left. given (condition_of xs) (λ truth. branch truth b d bindings left))
      (λ xs left. given (condition_of xs) (λ truth. branch truth b d others left)) (h.0 [] forest)
      (λ xs left. unless_given (condition_of xs) (λ truth. branch truth b d bindings left) (λ truth. branch truth b d others left)
      (λ truth. branch_alike truth b d left h.1.0 h.1.1.0))
  here_alike context operators.If _ named h forest = inl refl
  here_alike context operator ds named h forest = strict_alike context operator ds h forest

-- an operator looks at its variable alone, and at what its parts look at
pub operator_alike : (bindings others : Bindings) (context : Context) (operator : Operator) (ds : List Denotation)
    → ((number : ℕ) → names_variable operator number ≡ true → IsBoundAlike bindings others number) → AreAlike bindings others ds
    → IsAlike bindings others (denoted context operator ds)
operator_alike bindings others context operator ds named h bound forest =
    here_alike (bound ++ bindings) (bound ++ others) context operator ds
    (λ number e. bound_alike_behind bound bindings others number (named number e)) (all_alike_behind bound bindings others ds h) forest
