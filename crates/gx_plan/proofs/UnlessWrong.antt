-- What an operator comes to is the same but for type errors, where its parts and calls of functions are.
use Rattle.std.proofs.Common.{◌≡◌, inl, inr, ℕ, zero, suc, Bool, true, false, Option, None, Some, List, [], ◌∷◌, ◌++◌, length, map, drop, refl, sym, ◌∙◌, ap, subst, if◌then◌else◌}
use Rattle.gx_facets.specs.declared.Atomic.{Atomic}
use Rattle.gx_sorting.specs.declared.keys.KeyOrder.{KeyOrder}
use Rattle.gx_types.specs.SchemaSet.{SchemaSet}
use Rattle.gx_model.specs.Forest.{Forest}
use Rattle.gx_model.specs.Item.{Item, Items}
use Rattle.gx_core.specs.declared.cases.TypeCase.{TypeCase}
use Rattle.gx_core.specs.declared.operator.ClauseKind.{ClauseKind}
use Rattle.gx_core.specs.declared.operator.ClauseKind.TheVariants as clauses
use Rattle.gx_core.specs.declared.operator.Operator.{Operator}
use Rattle.gx_core.specs.declared.operator.Operator.TheVariants as operators
use Rattle.gx_core.specs.Bindings.{position_bound}
use Rattle.gx_core.specs.Instances.{is_instance}
use Rattle.gx_core.specs.Outcome.{Outcome, gives, raises, wrong, after, given}
use Rattle.gx_core.specs.Comparing.{truth_value, condition_of}
use Rattle.gx_core.specs.Converting.{arguments_converted}
use Rattle.gx_core.specs.Blocks.{Tuple, key_of, tuple_keys, tuples_of_each, tuples_if, tuples_of, in_key_order, returned, block_returned}
use Rattle.gx_core.specs.Meaning.{CallOutcomes, Bindings, Denotation, item_bound, acts, all_of, for_each, decides, any_decides, branch, switched}
use Rattle.gx_plan.specs.TypeErrors.{IsSameUnlessWrong, DenotesSameUnlessWrong, DenoteSameUnlessWrong, CallsAreSameUnlessWrong, OperatorsAreSameUnlessWrong}

-- ---- outcomes

pub unless_after : {R S : Type 0} (one other : Outcome R) (next following : R → Forest → Outcome S) → IsSameUnlessWrong one other
    → ((x : R) (left : Forest) → IsSameUnlessWrong (next x left) (following x left))
    → IsSameUnlessWrong (after one next) (after other following)
unless_after {R = R} {S = S} one other next following (inl e) h = inl (ap (λ (o : Outcome R). after o next) e)
unless_after {R = R} {S = S} one other next following (inr e) h = subst (λ (o : Outcome R). IsSameUnlessWrong (after one next) (after o following)) e (behind one)
  where
    behind : (o : Outcome R) → IsSameUnlessWrong (after o next) (after o following)
    behind (gives x left) = h x left
    behind (raises code) = inr refl
    behind wrong = inl refl

unless_given : {R S : Type 0} (found : Option R) (next following : R → Outcome S) → ((x : R) → IsSameUnlessWrong (next x) (following x))
    → IsSameUnlessWrong (given found next) (given found following)
unless_given None next following h = inl refl
unless_given (Some x) next following h = h x

unless_either : {R : Type 0} (b : Bool) (one other more others : Outcome R) → IsSameUnlessWrong one other → IsSameUnlessWrong more others
    → IsSameUnlessWrong (if b then one else more) (if b then other else others)
unless_either true one other more others h k = h
unless_either false one other more others h k = k

pub unless_further : {R : Type 0} (one other last : Outcome R) → IsSameUnlessWrong one other → IsSameUnlessWrong other last → IsSameUnlessWrong one last
unless_further one other last (inl e) h = inl e
unless_further one other last (inr e) (inl f) = inl (e ∙ f)
unless_further one other last (inr e) (inr f) = inr (e ∙ f)

pub unless_so : {R : Type 0} (one other first last : Outcome R) → one ≡ first → other ≡ last → IsSameUnlessWrong first last → IsSameUnlessWrong one other
unless_so one other first last e f (inl g) = inl (e ∙ g)
unless_so one other first last e f (inr g) = inr (e ∙ g ∙ sym f)

-- ---- operands

unless_all : (ds es : List Denotation) → DenoteSameUnlessWrong ds es → (bindings : Bindings) (forest : Forest)
    → IsSameUnlessWrong (all_of ds bindings forest) (all_of es bindings forest)
unless_all [] [] h bindings forest = inr refl
unless_all [] (e ∷ es) h bindings forest = absurd h
unless_all (d ∷ ds) [] h bindings forest = absurd h
unless_all (d ∷ ds) (e ∷ es) h bindings forest =
    unless_after (d bindings forest) (e bindings forest)
    (λ value left. after (all_of ds bindings left) (λ values last. gives (value ∷ values) last))
    (λ value left. after (all_of es bindings left) (λ values last. gives (value ∷ values) last)) (h.0 bindings forest)
    (λ value left. unless_after (all_of ds bindings left) (all_of es bindings left) (λ values last. gives (value ∷ values) last)
    (λ values last. gives (value ∷ values) last) (unless_all ds es h.1 bindings left) (λ values last. inr refl))

unless_acts : (s : SchemaSet) (calls others : CallOutcomes) → CallsAreSameUnlessWrong calls others → (operator : Operator) (values : List Items) (forest : Forest)
    → IsSameUnlessWrong (acts (record { schemas = s; calls = calls }) operator values forest) (acts (record { schemas = s; calls = others }) operator values forest)
unless_acts s calls others h (operators.User signature count) values forest =
    unless_after (arguments_converted s signature.parameters values forest) (arguments_converted s signature.parameters values forest)
    (λ arguments left. calls signature arguments left) (λ arguments left. others signature arguments left) (inr refl)
    (λ arguments left. h signature arguments left)
unless_acts s calls others h operator values forest = inr refl

-- ---- loops and choices

unless_turns : (next following : ℕ → Item → Forest → Outcome Items) → ((number : ℕ) (x : Item) (now : Forest) → IsSameUnlessWrong (next number x now) (following number x now))
    → (number : ℕ) (done xs : Items) (forest : Forest) → IsSameUnlessWrong (for_each next number done xs forest) (for_each following number done xs forest)
unless_turns next following h number done [] forest = inr refl
unless_turns next following h number done (x ∷ xs) forest =
    unless_after (next number x forest) (following number x forest) (λ more left. for_each next (suc number) (done ++ more) xs left)
    (λ more left. for_each following (suc number) (done ++ more) xs left) (h number x forest)
    (λ more left. unless_turns next following h (suc number) (done ++ more) xs left)

unless_search : (decisive : Bool) (test following : Item → Forest → Outcome Items) → ((x : Item) (now : Forest) → IsSameUnlessWrong (test x now) (following x now))
    → (xs : Items) (forest : Forest) → IsSameUnlessWrong (any_decides decisive test xs forest) (any_decides decisive following xs forest)
unless_search decisive test following h [] forest = inr refl
unless_search decisive test following h (x ∷ xs) forest =
    unless_after (test x forest) (following x forest)
    (λ ys left. given (condition_of ys) (λ truth. if decides decisive truth then gives (truth_value decisive) left else any_decides decisive test xs left))
    (λ ys left. given (condition_of ys) (λ truth. if decides decisive truth then gives (truth_value decisive) left else any_decides decisive following xs left))
    (h x forest)
    (λ ys left. unless_given (condition_of ys)
    (λ truth. if decides decisive truth then gives (truth_value decisive) left else any_decides decisive test xs left)
    (λ truth. if decides decisive truth then gives (truth_value decisive) left else any_decides decisive following xs left)
    (λ truth. unless_either (decides decisive truth) (gives (truth_value decisive) left) (gives (truth_value decisive) left)
    (any_decides decisive test xs left) (any_decides decisive following xs left) (inr refl) (unless_search decisive test following h xs left)))

unless_branch : (truth : Bool) (b x d y : Denotation) (bindings : Bindings) (forest : Forest) → DenotesSameUnlessWrong b d → DenotesSameUnlessWrong x y
    → IsSameUnlessWrong (branch truth b x bindings forest) (branch truth d y bindings forest)
unless_branch true b x d y bindings forest h k = h bindings forest
unless_branch false b x d y bindings forest h k = k bindings forest

unless_switched : (s : SchemaSet) (cases : List TypeCase) (default : ℕ) (ds es : List Denotation) → DenoteSameUnlessWrong ds es → (xs : Items) (bindings : Bindings) (forest : Forest)
    → IsSameUnlessWrong (switched s cases default ds xs bindings forest) (switched s cases default es xs bindings forest)
unless_switched s [] default [] es h xs bindings forest = inl refl
unless_switched s [] default (d ∷ []) [] h xs bindings forest = absurd h
unless_switched s [] default (d ∷ []) (e ∷ []) h xs bindings forest = h.0 (position_bound default xs ++ bindings) forest
unless_switched s [] default (d ∷ []) (e ∷ f ∷ es) h xs bindings forest = absurd h.1
unless_switched s [] default (d ∷ c ∷ ds) es h xs bindings forest = inl refl
unless_switched s (case ∷ cases) default [] es h xs bindings forest = inl refl
unless_switched s (case ∷ cases) default (d ∷ ds) [] h xs bindings forest = absurd h
unless_switched s (case ∷ cases) default (d ∷ ds) (e ∷ es) h xs bindings forest =
    unless_either (is_instance s forest case.kind xs) (d (position_bound case.variable xs ++ bindings) forest) (e (position_bound case.variable xs ++ bindings) forest)
    (switched s cases default ds xs bindings forest) (switched s cases default es xs bindings forest) (h.0 (position_bound case.variable xs ++ bindings) forest)
    (unless_switched s cases default ds es h.1 xs bindings forest)

-- ---- blocks

unless_keys : (orders : List KeyOrder) (ds es : List Denotation) → DenoteSameUnlessWrong ds es → (bindings : Bindings) (forest : Forest)
    → IsSameUnlessWrong (tuple_keys orders ds bindings forest) (tuple_keys orders es bindings forest)
unless_keys [] ds es h bindings forest = inr refl
unless_keys (order ∷ orders) [] es h bindings forest = inl refl
unless_keys (order ∷ orders) (d ∷ ds) [] h bindings forest = absurd h
unless_keys (order ∷ orders) (d ∷ ds) (e ∷ es) h bindings forest =
    let next : List Denotation → Forest → Option Atomic → Outcome (List (Option Atomic)) =
    λ ps left key. after (tuple_keys orders ps bindings left) (λ keys last. gives (key ∷ keys) last) in
    unless_after (d bindings forest) (e bindings forest) (λ xs left. given (key_of xs) (next ds left)) (λ xs left. given (key_of xs) (next es left))
    (h.0 bindings forest)
    (λ xs left. unless_given (key_of xs) (next ds left) (next es left)
    (λ key. unless_after (tuple_keys orders ds bindings left) (tuple_keys orders es bindings left) (λ keys last. gives (key ∷ keys) last)
    (λ keys last. gives (key ∷ keys) last) (unless_keys orders ds es h.1 bindings left) (λ keys last. inr refl)))

unless_each : (next following : ℕ → Item → Forest → Outcome (List Tuple))
    → ((number : ℕ) (x : Item) (now : Forest) → IsSameUnlessWrong (next number x now) (following number x now))
    → (number : ℕ) (xs : Items) (forest : Forest) → IsSameUnlessWrong (tuples_of_each next number xs forest) (tuples_of_each following number xs forest)
unless_each next following h number [] forest = inr refl
unless_each next following h number (x ∷ xs) forest =
    unless_after (next number x forest) (following number x forest)
    (λ found left. after (tuples_of_each next (suc number) xs left) (λ others last. gives (found ++ others) last))
    (λ found left. after (tuples_of_each following (suc number) xs left) (λ others last. gives (found ++ others) last)) (h number x forest)
    (λ found left. unless_after (tuples_of_each next (suc number) xs left) (tuples_of_each following (suc number) xs left)
    (λ others last. gives (found ++ others) last) (λ others last. gives (found ++ others) last)
    (unless_each next following h (suc number) xs left) (λ others last. inr refl))

unless_if : (truth : Bool) (found other : Forest → Outcome (List Tuple)) → ((now : Forest) → IsSameUnlessWrong (found now) (other now)) → (forest : Forest)
    → IsSameUnlessWrong (tuples_if truth found forest) (tuples_if truth other forest)
unless_if true found other h forest = h forest
unless_if false found other h forest = inr refl

unless_tuples : (kinds : List ClauseKind) (orders : List KeyOrder) (ds es : List Denotation) → DenoteSameUnlessWrong ds es → (bound outer : Bindings) (forest : Forest)
    → IsSameUnlessWrong (tuples_of kinds orders ds bound outer forest) (tuples_of kinds orders es bound outer forest)
unless_tuples [] orders ds es h bound outer forest =
    unless_after (tuple_keys orders ds (bound ++ outer) forest) (tuple_keys orders es (bound ++ outer) forest)
    (λ keys left. gives (record { keys = keys; bound = bound } ∷ []) left) (λ keys left. gives (record { keys = keys; bound = bound } ∷ []) left)
    (unless_keys orders ds es h (bound ++ outer) forest) (λ keys left. inr refl)
unless_tuples (kind ∷ kinds) orders [] es h bound outer forest = inl refl
unless_tuples (kind ∷ kinds) orders (d ∷ ds) [] h bound outer forest = absurd h
unless_tuples (clauses.For binder position ∷ kinds) orders (d ∷ ds) (e ∷ es) h bound outer forest =
    let found : List Denotation → ℕ → Item → Forest → Outcome (List Tuple) =
    λ ps number x now. tuples_of kinds orders ps (item_bound binder.variable position number x ++ bound) outer now in
    unless_after (d (bound ++ outer) forest) (e (bound ++ outer) forest) (λ xs left. tuples_of_each (found ds) 1 xs left)
    (λ xs left. tuples_of_each (found es) 1 xs left) (h.0 (bound ++ outer) forest)
    (λ xs left. unless_each (found ds) (found es)
    (λ number x now. unless_tuples kinds orders ds es h.1 (item_bound binder.variable position number x ++ bound) outer now) 1 xs left)
unless_tuples (clauses.Let binder ∷ kinds) orders (d ∷ ds) (e ∷ es) h bound outer forest =
    unless_after (d (bound ++ outer) forest) (e (bound ++ outer) forest)
    (λ xs left. tuples_of kinds orders ds ((binder.variable, xs) ∷ bound) outer left)
    (λ xs left. tuples_of kinds orders es ((binder.variable, xs) ∷ bound) outer left) (h.0 (bound ++ outer) forest)
    (λ xs left. unless_tuples kinds orders ds es h.1 ((binder.variable, xs) ∷ bound) outer left)
unless_tuples (clauses.Where ∷ kinds) orders (d ∷ ds) (e ∷ es) h bound outer forest =
    let next : List Denotation → Forest → Bool → Outcome (List Tuple) =
    λ ps left truth. tuples_if truth (λ now. tuples_of kinds orders ps bound outer now) left in
    unless_after (d (bound ++ outer) forest) (e (bound ++ outer) forest) (λ xs left. given (condition_of xs) (next ds left))
    (λ xs left. given (condition_of xs) (next es left)) (h.0 (bound ++ outer) forest)
    (λ xs left. unless_given (condition_of xs) (next ds left) (next es left)
    (λ truth. unless_if truth (λ now. tuples_of kinds orders ds bound outer now) (λ now. tuples_of kinds orders es bound outer now)
    (λ now. unless_tuples kinds orders ds es h.1 bound outer now) left))

unless_returned : (body other : Denotation) (outer : Bindings) → DenotesSameUnlessWrong body other → (done : Items) (tuples : List Bindings) (forest : Forest)
    → IsSameUnlessWrong (returned body outer done tuples forest) (returned other outer done tuples forest)
unless_returned body other outer h done [] forest = inr refl
unless_returned body other outer h done (bound ∷ tuples) forest =
    unless_after (body (bound ++ outer) forest) (other (bound ++ outer) forest) (λ more left. returned body outer (done ++ more) tuples left)
    (λ more left. returned other outer (done ++ more) tuples left) (h (bound ++ outer) forest)
    (λ more left. unless_returned body other outer h (done ++ more) tuples left)

unless_block_returned : (orders : List KeyOrder) (ds es : List Denotation) → DenoteSameUnlessWrong ds es → (bindings : Bindings) (tuples : List Tuple) (forest : Forest)
    → IsSameUnlessWrong (block_returned orders ds bindings tuples forest) (block_returned orders es bindings tuples forest)
unless_block_returned orders [] es h bindings tuples forest = inl refl
unless_block_returned orders (d ∷ []) [] h bindings tuples forest = absurd h
unless_block_returned orders (d ∷ []) (e ∷ []) h bindings tuples forest =
    unless_returned d e bindings h.0 [] (map (λ t. t.bound) (in_key_order orders tuples)) forest
unless_block_returned orders (d ∷ []) (e ∷ f ∷ es) h bindings tuples forest = absurd h.1
unless_block_returned orders (d ∷ c ∷ ds) es h bindings tuples forest = inl refl

unless_behind : (n : ℕ) (ds es : List Denotation) → DenoteSameUnlessWrong ds es → DenoteSameUnlessWrong (drop n ds) (drop n es)
unless_behind zero ds es h = h
unless_behind (suc n) [] [] h = h
unless_behind (suc n) [] (e ∷ es) h = absurd h
unless_behind (suc n) (d ∷ ds) [] h = absurd h
unless_behind (suc n) (d ∷ ds) (e ∷ es) h = unless_behind n ds es h.1

-- ---- operators

strictly_unless : (s : SchemaSet) (calls others : CallOutcomes) (operator : Operator) (ds es : List Denotation) → CallsAreSameUnlessWrong calls others → DenoteSameUnlessWrong ds es
    → (bindings : Bindings) (forest : Forest)
    → IsSameUnlessWrong (after (all_of ds bindings forest) (acts (record { schemas = s; calls = calls }) operator))
    (after (all_of es bindings forest) (acts (record { schemas = s; calls = others }) operator))
strictly_unless s calls others operator ds es k h bindings forest =
    unless_after (all_of ds bindings forest) (all_of es bindings forest) (acts (record { schemas = s; calls = calls }) operator)
    (acts (record { schemas = s; calls = others }) operator) (unless_all ds es h bindings forest)
    (λ values left. unless_acts s calls others k operator values left)

pub operators_are_same_unless_wrong : OperatorsAreSameUnlessWrong
operators_are_same_unless_wrong s calls others (operators.Var number) [] [] k h bindings forest = inr refl
operators_are_same_unless_wrong s calls others (operators.Var number) [] (e ∷ es) k h bindings forest = absurd h
operators_are_same_unless_wrong s calls others (operators.Var number) (d ∷ ds) [] k h bindings forest = absurd h
operators_are_same_unless_wrong s calls others (operators.Var number) (d ∷ ds) (e ∷ es) k h bindings forest =
    strictly_unless s calls others (operators.Var number) (d ∷ ds) (e ∷ es) k h bindings forest
operators_are_same_unless_wrong s calls others (operators.Step axis asks number) [] [] k h bindings forest = inr refl
operators_are_same_unless_wrong s calls others (operators.Step axis asks number) [] (e ∷ es) k h bindings forest = absurd h
operators_are_same_unless_wrong s calls others (operators.Step axis asks number) (d ∷ ds) [] k h bindings forest = absurd h
operators_are_same_unless_wrong s calls others (operators.Step axis asks number) (d ∷ ds) (e ∷ es) k h bindings forest =
    strictly_unless s calls others (operators.Step axis asks number) (d ∷ ds) (e ∷ es) k h bindings forest
operators_are_same_unless_wrong s calls others (operators.For binder position) (a ∷ b ∷ []) (c ∷ d ∷ []) k h bindings forest =
    let turn : Denotation → ℕ → Item → Forest → Outcome Items = λ body number x now. body (item_bound binder.variable position number x ++ bindings) now in
    unless_after (a bindings forest) (c bindings forest) (λ xs left. for_each (turn b) 1 [] xs left) (λ xs left. for_each (turn d) 1 [] xs left)
    (h.0 bindings forest)
    (λ xs left. unless_turns (turn b) (turn d) (λ number x now. h.1.0 (item_bound binder.variable position number x ++ bindings) now) 1 [] xs left)
operators_are_same_unless_wrong s calls others (operators.For binder position) (a ∷ b ∷ []) [] k h bindings forest = absurd h
operators_are_same_unless_wrong s calls others (operators.For binder position) (a ∷ b ∷ []) (c ∷ []) k h bindings forest = absurd h.1
operators_are_same_unless_wrong s calls others (operators.For binder position) (a ∷ b ∷ []) (c ∷ d ∷ e ∷ es) k h bindings forest = absurd h.1.1
operators_are_same_unless_wrong s calls others (operators.For binder position) _ es k h bindings forest = inl refl
operators_are_same_unless_wrong s calls others (operators.SomeIn binder) (a ∷ b ∷ []) (c ∷ d ∷ []) k h bindings forest =
    let test : Denotation → Item → Forest → Outcome Items = λ body x now. body ((binder.variable, x ∷ []) ∷ bindings) now in
    unless_after (a bindings forest) (c bindings forest) (λ xs left. any_decides true (test b) xs left) (λ xs left. any_decides true (test d) xs left)
    (h.0 bindings forest) (λ xs left. unless_search true (test b) (test d) (λ x now. h.1.0 ((binder.variable, x ∷ []) ∷ bindings) now) xs left)
operators_are_same_unless_wrong s calls others (operators.SomeIn binder) (a ∷ b ∷ []) [] k h bindings forest = absurd h
operators_are_same_unless_wrong s calls others (operators.SomeIn binder) (a ∷ b ∷ []) (c ∷ []) k h bindings forest = absurd h.1
operators_are_same_unless_wrong s calls others (operators.SomeIn binder) (a ∷ b ∷ []) (c ∷ d ∷ e ∷ es) k h bindings forest = absurd h.1.1
operators_are_same_unless_wrong s calls others (operators.SomeIn binder) _ es k h bindings forest = inl refl
operators_are_same_unless_wrong s calls others (operators.EveryIn binder) (a ∷ b ∷ []) (c ∷ d ∷ []) k h bindings forest =
    let test : Denotation → Item → Forest → Outcome Items = λ body x now. body ((binder.variable, x ∷ []) ∷ bindings) now in
    unless_after (a bindings forest) (c bindings forest) (λ xs left. any_decides false (test b) xs left) (λ xs left. any_decides false (test d) xs left)
    (h.0 bindings forest) (λ xs left. unless_search false (test b) (test d) (λ x now. h.1.0 ((binder.variable, x ∷ []) ∷ bindings) now) xs left)
operators_are_same_unless_wrong s calls others (operators.EveryIn binder) (a ∷ b ∷ []) [] k h bindings forest = absurd h
operators_are_same_unless_wrong s calls others (operators.EveryIn binder) (a ∷ b ∷ []) (c ∷ []) k h bindings forest = absurd h.1
operators_are_same_unless_wrong s calls others (operators.EveryIn binder) (a ∷ b ∷ []) (c ∷ d ∷ e ∷ es) k h bindings forest = absurd h.1.1
operators_are_same_unless_wrong s calls others (operators.EveryIn binder) _ es k h bindings forest = inl refl
operators_are_same_unless_wrong s calls others (operators.Let binder) (a ∷ b ∷ []) (c ∷ d ∷ []) k h bindings forest =
    unless_after (a bindings forest) (c bindings forest) (λ xs left. b ((binder.variable, xs) ∷ bindings) left)
    (λ xs left. d ((binder.variable, xs) ∷ bindings) left) (h.0 bindings forest) (λ xs left. h.1.0 ((binder.variable, xs) ∷ bindings) left)
operators_are_same_unless_wrong s calls others (operators.Let binder) (a ∷ b ∷ []) [] k h bindings forest = absurd h
operators_are_same_unless_wrong s calls others (operators.Let binder) (a ∷ b ∷ []) (c ∷ []) k h bindings forest = absurd h.1
operators_are_same_unless_wrong s calls others (operators.Let binder) (a ∷ b ∷ []) (c ∷ d ∷ e ∷ es) k h bindings forest = absurd h.1.1
operators_are_same_unless_wrong s calls others (operators.Let binder) _ es k h bindings forest = inl refl
operators_are_same_unless_wrong s calls others (operators.Switch cases default) [] es k h bindings forest = inl refl
operators_are_same_unless_wrong s calls others (operators.Switch cases default) (d ∷ ds) [] k h bindings forest = absurd h
operators_are_same_unless_wrong s calls others (operators.Switch cases default) (d ∷ ds) (e ∷ es) k h bindings forest =
    unless_after (d bindings forest) (e bindings forest) (λ xs left. switched s cases default ds xs bindings left)
    (λ xs left. switched s cases default es xs bindings left) (h.0 bindings forest)
    (λ xs left. unless_switched s cases default ds es h.1 xs bindings left)
operators_are_same_unless_wrong s calls others (operators.Block kinds orders) ds es k h bindings forest =
    let behind : List Denotation → List Denotation = λ ps. drop (length orders) (drop (length kinds) ps) in
    unless_after (tuples_of kinds orders ds [] bindings forest) (tuples_of kinds orders es [] bindings forest)
    (block_returned orders (behind ds) bindings) (block_returned orders (behind es) bindings) (unless_tuples kinds orders ds es h [] bindings forest)
    (λ tuples left. unless_block_returned orders (behind ds) (behind es)
    (unless_behind (length orders) (drop (length kinds) ds) (drop (length kinds) es) (unless_behind (length kinds) ds es h)) bindings tuples left)
operators_are_same_unless_wrong s calls others operators.If (a ∷ b ∷ x ∷ []) (c ∷ d ∷ y ∷ []) k h bindings forest =
    unless_after (a bindings forest) (c bindings forest) (λ xs left. given (condition_of xs) (λ truth. branch truth b x bindings left))
    (λ xs left. given (condition_of xs) (λ truth. branch truth d y bindings left)) (h.0 bindings forest)
    (λ xs left. unless_given (condition_of xs) (λ truth. branch truth b x bindings left) (λ truth. branch truth d y bindings left)
    (λ truth. unless_branch truth b x d y bindings left h.1.0 h.1.1.0))
operators_are_same_unless_wrong s calls others operators.If (a ∷ b ∷ x ∷ []) [] k h bindings forest = absurd h
operators_are_same_unless_wrong s calls others operators.If (a ∷ b ∷ x ∷ []) (c ∷ []) k h bindings forest = absurd h.1
operators_are_same_unless_wrong s calls others operators.If (a ∷ b ∷ x ∷ []) (c ∷ d ∷ []) k h bindings forest = absurd h.1.1
operators_are_same_unless_wrong s calls others operators.If (a ∷ b ∷ x ∷ []) (c ∷ d ∷ y ∷ e ∷ es) k h bindings forest = absurd h.1.1.1
operators_are_same_unless_wrong s calls others operators.If _ es k h bindings forest = inl refl
operators_are_same_unless_wrong s calls others operator ds es k h bindings forest = strictly_unless s calls others operator ds es k h bindings forest
