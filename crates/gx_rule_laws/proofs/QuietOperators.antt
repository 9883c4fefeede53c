-- Operators that choose, bind or repeat raise nothing where their parts raise nothing, and leave the forest as it is where these do.
use Rattle.std.proofs.Common.{◌≡◌, ℕ, zero, suc, length, drop, Bool, true, false, List, [], ◌∷◌, ◌++◌, map, Option, None, Some, refl, sym, subst, if◌then◌else◌}
use Rattle.gx_types.specs.SchemaSet.{SchemaSet}
use Rattle.gx_model.specs.Forest.{Forest}
use Rattle.gx_model.specs.Item.{Item, Items}
use Rattle.gx_sorting.specs.declared.keys.KeyOrder.{KeyOrder}
use Rattle.gx_core.specs.declared.cases.TypeCase.{TypeCase}
use Rattle.gx_core.specs.declared.operator.ClauseKind.{ClauseKind}
use Rattle.gx_core.specs.declared.operator.ClauseKind.TheVariants as kinds
use Rattle.gx_core.specs.Bindings.{position_bound}
use Rattle.gx_core.specs.Blocks.{Tuple, key_of, tuple_keys, tuples_of_each, tuples_if, tuples_of, in_key_order, returned, block_returned, block_denoted}
use Rattle.gx_core.specs.Comparing.{truth_value, condition_of}
use Rattle.gx_core.specs.Instances.{is_instance}
use Rattle.gx_core.specs.Outcome.{Outcome, gives, raises, wrong, after, given}
use Rattle.gx_core.specs.Meaning.{Bindings, Denotation, all_of, for_each, item_bound, decides, any_decides, branch, switched}

-- an outcome that is no error; the forest stays as it is
abbrev pub IsQuiet : {R : Type 0} → Forest → Outcome R → Type 0
IsQuiet forest (gives result left) = left ≡ forest
IsQuiet forest (raises code) = ⊥
IsQuiet forest wrong = Unit {0}

-- each part, wherever it stands
abbrev pub AreQuiet : List Denotation → Type 0
AreQuiet [] = Unit {0}
AreQuiet (part ∷ parts) = ((bindings : Bindings) (forest : Forest) → IsQuiet forest (part bindings forest)) × AreQuiet parts

pub quiet_after : {R S : Type 0} (forest : Forest) (outcome : Outcome R) (next : R → Forest → Outcome S) → IsQuiet forest outcome
    → ((result : R) → IsQuiet forest (next result forest)) → IsQuiet forest (after outcome next)
quiet_after forest (gives result left) next h k = subst (λ (f : Forest). IsQuiet forest (next result f)) (sym h) (k result)
quiet_after forest (raises code) next h k = absurd h
quiet_after forest wrong next h k = tt

pub quiet_given : {R S : Type 0} (forest : Forest) (x : Option R) (next : R → Outcome S) → ((r : R) → IsQuiet forest (next r))
    → IsQuiet forest (given x next)
quiet_given forest None next k = tt
quiet_given forest (Some x) next k = k x

pub quiet_choice : {R : Type 0} (forest : Forest) (b : Bool) (chosen otherwise : Outcome R) → IsQuiet forest chosen → IsQuiet forest otherwise
    → IsQuiet forest (if b then chosen else otherwise)
quiet_choice forest true chosen otherwise h k = h
quiet_choice forest false chosen otherwise h k = k

-- ---- operands, loops and searches

pub quiet_all : (parts : List Denotation) (bindings : Bindings) (forest : Forest) → AreQuiet parts → IsQuiet forest (all_of parts bindings forest)
quiet_all [] bindings forest h = refl
quiet_all (part ∷ parts) bindings forest h =
    quiet_after forest (part bindings forest) (λ value left. after (all_of parts bindings left) (λ values last. gives (value ∷ values) last))
    (h.0 bindings forest)
    (λ value. quiet_after forest (all_of parts bindings forest) (λ values last. gives (value ∷ values) last)
    (quiet_all parts bindings forest h.1) (λ values. refl))

pub quiet_each : (next : ℕ → Item → Forest → Outcome Items) (number : ℕ) (done xs : Items) (forest : Forest)
    → ((n : ℕ) (x : Item) → IsQuiet forest (next n x forest)) → IsQuiet forest (for_each next number done xs forest)
quiet_each next number done [] forest k = refl
quiet_each next number done (x ∷ xs) forest k =
    quiet_after forest (next number x forest) (λ more left. for_each next (suc number) (done ++ more) xs left) (k number x)
    (λ more. quiet_each next (suc number) (done ++ more) xs forest k)

pub quiet_search : (decisive : Bool) (test : Item → Forest → Outcome Items) (xs : Items) (forest : Forest)
    → ((x : Item) → IsQuiet forest (test x forest)) → IsQuiet forest (any_decides decisive test xs forest)
quiet_search decisive test [] forest k = refl
quiet_search decisive test (x ∷ xs) forest k =
    quiet_after forest (test x forest) (λ ys left. given (condition_of ys)
    (λ truth. if decides decisive truth then gives (truth_value decisive) left else any_decides decisive test xs left)) (k x)
    (λ ys. quiet_given forest (condition_of ys)
    (λ truth. if decides decisive truth then gives (truth_value decisive) forest else any_decides decisive test xs forest)
    (λ truth. quiet_choice forest (decides decisive truth) (gives (truth_value decisive) forest) (any_decides decisive test xs forest) refl
    (quiet_search decisive test xs forest k)))

pub quiet_branch : (b : Bool) (chosen otherwise : Denotation) (bindings : Bindings) (forest : Forest)
    → IsQuiet forest (chosen bindings forest) → IsQuiet forest (otherwise bindings forest) → IsQuiet forest (branch b chosen otherwise bindings forest)
quiet_branch true chosen otherwise bindings forest h k = h
quiet_branch false chosen otherwise bindings forest h k = k

pub quiet_switched : (schemas : SchemaSet) (cases : List TypeCase) (default : ℕ) (branches : List Denotation) (xs : Items) (bindings : Bindings)
    (forest : Forest) → AreQuiet branches → IsQuiet forest (switched schemas cases default branches xs bindings forest)
quiet_switched schemas [] default (otherwise ∷ []) xs bindings forest h = h.0 (position_bound default xs ++ bindings) forest
quiet_switched schemas (c ∷ cases) default (chosen ∷ branches) xs bindings forest h =
    quiet_choice forest (is_instance schemas forest c.kind xs) (chosen (position_bound c.variable xs ++ bindings) forest)
    (switched schemas cases default branches xs bindings forest)
    (h.0 (position_bound c.variable xs ++ bindings) forest) (quiet_switched schemas cases default branches xs bindings forest h.1)
quiet_switched schemas [] default [] xs bindings forest h = tt
quiet_switched schemas [] default (b ∷ d ∷ branches) xs bindings forest h = tt
quiet_switched schemas (c ∷ cases) default [] xs bindings forest h = tt

-- ---- blocks

quiet_keys : (orders : List KeyOrder) (parts : List Denotation) (bindings : Bindings) (forest : Forest) → AreQuiet parts
    → IsQuiet forest (tuple_keys orders parts bindings forest)
quiet_keys [] parts bindings forest h = refl
quiet_keys (order ∷ orders) [] bindings forest h = tt
quiet_keys (order ∷ orders) (part ∷ parts) bindings forest h =
    quiet_after forest (part bindings forest)
    (λ xs left. given (key_of xs) (λ key. after (tuple_keys orders parts bindings left) (λ keys last. gives (key ∷ keys) last)))
    (h.0 bindings forest)
    (λ xs. quiet_given forest (key_of xs) (λ key. after (tuple_keys orders parts bindings forest) (λ keys last. gives (key ∷ keys) last))
    (λ key. quiet_after forest (tuple_keys orders parts bindings forest) (λ keys last. gives (key ∷ keys) last)
    (quiet_keys orders parts bindings forest h.1) (λ keys. refl)))

quiet_tuples_of_each : (next : ℕ → Item → Forest → Outcome (List Tuple)) (number : ℕ) (xs : Items) (forest : Forest)
    → ((n : ℕ) (x : Item) → IsQuiet forest (next n x forest)) → IsQuiet forest (tuples_of_each next number xs forest)
quiet_tuples_of_each next number [] forest k = refl
quiet_tuples_of_each next number (x ∷ xs) forest k =
    quiet_after forest (next number x forest)
    (λ found left. after (tuples_of_each next (suc number) xs left) (λ others last. gives (found ++ others) last)) (k number x)
    (λ found. quiet_after forest (tuples_of_each next (suc number) xs forest) (λ others last. gives (found ++ others) last)
    (quiet_tuples_of_each next (suc number) xs forest k) (λ others. refl))

quiet_tuples_if : (truth : Bool) (found : Forest → Outcome (List Tuple)) (forest : Forest) → IsQuiet forest (found forest)
    → IsQuiet forest (tuples_if truth found forest)
quiet_tuples_if true found forest h = h
quiet_tuples_if false found forest h = refl

quiet_tuples : (kinds : List ClauseKind) (orders : List KeyOrder) (parts : List Denotation) (bound outer : Bindings) (forest : Forest)
    → AreQuiet parts → IsQuiet forest (tuples_of kinds orders parts bound outer forest)
quiet_tuples [] orders parts bound outer forest h =
    quiet_after forest (tuple_keys orders parts (bound ++ outer) forest) (λ keys left. gives (record { keys = keys; bound = bound } ∷ []) left)
    (quiet_keys orders parts (bound ++ outer) forest h) (λ keys. refl)
quiet_tuples (kind ∷ kinds) orders [] bound outer forest h = tt
quiet_tuples (kinds.For binder position ∷ others) orders (source ∷ parts) bound outer forest h =
    quiet_after forest (source (bound ++ outer) forest)
    (λ xs left. tuples_of_each (λ number x now. tuples_of others orders parts
    (item_bound binder.variable position number x ++ bound) outer now) 1 xs left) (h.0 (bound ++ outer) forest)
    (λ xs. quiet_tuples_of_each
    (λ number x now. tuples_of others orders parts (item_bound binder.variable position number x ++ bound) outer now) 1 xs forest
    (λ number x. quiet_tuples others orders parts (item_bound binder.variable position number x ++ bound) outer forest h.1))
quiet_tuples (kinds.Let binder ∷ others) orders (value ∷ parts) bound outer forest h =
    quiet_after forest (value (bound ++ outer) forest) (λ xs left. tuples_of others orders parts ((binder.variable, xs) ∷ bound) outer left)
    (h.0 (bound ++ outer) forest)
    (λ xs. quiet_tuples others orders parts ((binder.variable, xs) ∷ bound) outer forest h.1)
quiet_tuples (kinds.Where ∷ others) orders (condition ∷ parts) bound outer forest h =
    quiet_after forest (condition (bound ++ outer) forest)
    (λ xs left. given (condition_of xs) (λ truth. tuples_if truth (λ now. tuples_of others orders parts bound outer now) left))
    (h.0 (bound ++ outer) forest)
    (λ xs. quiet_given forest (condition_of xs) (λ truth. tuples_if truth (λ now. tuples_of others orders parts bound outer now) forest)
    (λ truth. quiet_tuples_if truth (λ now. tuples_of others orders parts bound outer now) forest
    (quiet_tuples others orders parts bound outer forest h.1)))

quiet_returned : (body : Denotation) (outer : Bindings) (done : Items) (tuples : List Bindings) (forest : Forest)
    → ((bindings : Bindings) (now : Forest) → IsQuiet now (body bindings now)) → IsQuiet forest (returned body outer done tuples forest)
quiet_returned body outer done [] forest k = refl
quiet_returned body outer done (bound ∷ tuples) forest k =
    quiet_after forest (body (bound ++ outer) forest) (λ more left. returned body outer (done ++ more) tuples left) (k (bound ++ outer) forest)
    (λ more. quiet_returned body outer (done ++ more) tuples forest k)

quiet_block_returned : (orders : List KeyOrder) (returns : List Denotation) (bindings : Bindings) (tuples : List Tuple) (forest : Forest)
    → AreQuiet returns → IsQuiet forest (block_returned orders returns bindings tuples forest)
quiet_block_returned orders [] bindings tuples forest h = tt
quiet_block_returned orders (body ∷ []) bindings tuples forest h =
    quiet_returned body bindings [] (map (λ t. t.bound) (in_key_order orders tuples)) forest h.0
quiet_block_returned orders (body ∷ other ∷ more) bindings tuples forest h = tt

quiet_dropped : (n : ℕ) (parts : List Denotation) → AreQuiet parts → AreQuiet (drop n parts)
quiet_dropped zero parts h = h
quiet_dropped (suc n) [] h = tt
quiet_dropped (suc n) (part ∷ parts) h = quiet_dropped n parts h.1

pub quiet_block : (kinds : List ClauseKind) (orders : List KeyOrder) (parts : List Denotation) (bindings : Bindings) (forest : Forest)
    → AreQuiet parts → IsQuiet forest (block_denoted kinds orders parts bindings forest)
quiet_block kinds orders parts bindings forest h =
    quiet_after forest (tuples_of kinds orders parts [] bindings forest)
    (block_returned orders (drop (length orders) (drop (length kinds) parts)) bindings)
    (quiet_tuples kinds orders parts [] bindings forest h)
    (λ tuples. quiet_block_returned orders (drop (length orders) (drop (length kinds) parts)) bindings tuples forest
    (quiet_dropped (length orders) (drop (length kinds) parts) (quiet_dropped (length kinds) parts h)))
