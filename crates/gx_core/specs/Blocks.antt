-- A FLWOR whose tuples are sorted: its tuples, their keys, and what it returns (XQuery 1.0, sections 3.8.1 to 3.8.4).
use Rattle.std.specs.Prelude.{ℕ, suc, Bool, true, false, List, [], ◌∷◌, ◌++◌, map, drop, length, Option, None, Some}
use Rattle.gx_facets.specs.declared.Atomic.{Atomic}
use Rattle.gx_sorting.specs.declared.keys.KeyOrder.{KeyOrder}
use Rattle.gx_sorting.specs.KeyComparison.{keys_precede}
use Rattle.gx_sorting.specs.Sorting.{sorted}
use Rattle.gx_model.specs.Forest.{Forest}
use Rattle.gx_model.specs.Item.{Item, atom, Items}
use Rattle.gx_core.specs.declared.operator.ClauseKind.{ClauseKind}
use Rattle.gx_core.specs.declared.operator.ClauseKind.TheVariants.{For, Let, Where}
use Rattle.gx_core.specs.Outcome.{Outcome, gives, wrong, after, given}
use Rattle.gx_core.specs.Comparing.{condition_of}
use Rattle.gx_core.specs.Denotations.{Bindings, Denotation, item_bound}

-- a tuple: its keys, and what the clauses bind in it, the innermost first
pub record Tuple : Type 0 where
  pub keys : List (Option Atomic)
  pub bound : Bindings

-- a key is an atomic value, or empty
abbrev pub key_of : Items → Option (Option Atomic)
key_of [] = Some None
key_of (atom value ∷ []) = Some (Some value)
key_of _ = None

-- the keys of a tuple, from the left
abbrev pub tuple_keys : List KeyOrder → List Denotation → Bindings → Forest → Outcome (List (Option Atomic))
tuple_keys [] parts bindings forest = gives [] forest
tuple_keys (order ∷ orders) [] bindings forest = wrong
tuple_keys (order ∷ orders) (part ∷ parts) bindings forest =
    after (part bindings forest) (λ xs left. given (key_of xs)
    (λ key. after (tuple_keys orders parts bindings left) (λ keys last. gives (key ∷ keys) last)))

-- the tuples that a loop finds for each item, in order and by the number of the item
abbrev pub tuples_of_each : (ℕ → Item → Forest → Outcome (List Tuple)) → (number : ℕ) → Items → Forest → Outcome (List Tuple)
tuples_of_each next number [] forest = gives [] forest
tuples_of_each next number (x ∷ xs) forest =
    after (next number x forest) (λ found left. after (tuples_of_each next (suc number) xs left)
    (λ others last. gives (found ++ others) last))

-- the tuples of which a condition holds
abbrev pub tuples_if : Bool → (Forest → Outcome (List Tuple)) → Forest → Outcome (List Tuple)
tuples_if true found forest = found forest
tuples_if false found forest = gives [] forest

-- the tuples of clauses, in the order in which the loops find them, each with its keys as soon as it is found; `bound` is what the clauses
-- before bind, and the parts are those of the clauses and then the keys
abbrev pub tuples_of : List ClauseKind → List KeyOrder → List Denotation → (bound outer : Bindings) → Forest → Outcome (List Tuple)
tuples_of [] orders parts bound outer forest =
    after (tuple_keys orders parts (bound ++ outer) forest) (λ keys left. gives (record { keys = keys; bound = bound } ∷ []) left)
tuples_of (kind ∷ kinds) orders [] bound outer forest = wrong
tuples_of (For binder position ∷ kinds) orders (source ∷ parts) bound outer forest =
    after (source (bound ++ outer) forest)
    (λ xs left. tuples_of_each (λ number x now. tuples_of kinds orders parts
    (item_bound binder.variable position number x ++ bound) outer now) 1 xs left)
tuples_of (Let binder ∷ kinds) orders (value ∷ parts) bound outer forest =
    after (value (bound ++ outer) forest) (λ xs left. tuples_of kinds orders parts ((binder.variable, xs) ∷ bound) outer left)
tuples_of (Where ∷ kinds) orders (condition ∷ parts) bound outer forest =
    after (condition (bound ++ outer) forest)
    (λ xs left. given (condition_of xs) (λ truth. tuples_if truth (λ now. tuples_of kinds orders parts bound outer now) left))

-- tuples in the order of their keys; those whose keys are equal stay as they stood
abbrev pub in_key_order : List KeyOrder → List Tuple → List Tuple
in_key_order orders tuples = sorted (λ t u. keys_precede orders t.keys u.keys) tuples

-- what is returned for each tuple, of which what is bound in it counts; `done` is what there is so far
abbrev pub returned : Denotation → (outer : Bindings) → (done : Items) → List Bindings → Forest → Outcome Items
returned body outer done [] forest = gives done forest
returned body outer done (bound ∷ tuples) forest =
    after (body (bound ++ outer) forest) (λ more left. returned body outer (done ++ more) tuples left)

-- the parts are those of the clauses, the keys, and what is returned
abbrev pub block_returned : List KeyOrder → (returns : List Denotation) → Bindings → List Tuple → Forest → Outcome Items
block_returned orders (body ∷ []) bindings tuples forest =
    returned body bindings [] (map (λ t. t.bound) (in_key_order orders tuples)) forest
block_returned orders _ bindings tuples forest = wrong

abbrev pub block_denoted : List ClauseKind → List KeyOrder → List Denotation → Denotation
block_denoted kinds orders parts bindings forest =
    after (tuples_of kinds orders parts [] bindings forest)
    (block_returned orders (drop (length orders) (drop (length kinds) parts)) bindings)
