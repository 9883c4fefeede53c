-- The order of keys, and of the keys of tuples (XQuery 1.0, section 3.8.3).
use Rattle.std.specs.Prelude.{ℕ, Bool, false, if◌then◌else◌, List, [], ◌∷◌, drop, Option, Some, None}
use Rattle.std.specs.declared.cmp.Ordering.{Ordering}
use Rattle.std.specs.declared.cmp.Ordering.TheVariants.{Equal}
use Rattle.std.specs.Ordering.{nat_cmp, is_lt, on, flip_args, then_cmp}
use Rattle.gx_facets.specs.declared.Atomic.{Atomic}
use Rattle.gx_facets.specs.declared.AtomValue.{AtomValue}
use Rattle.gx_facets.specs.declared.AtomValue.TheVariants.{Truth}
use Rattle.gx_sorting.specs.declared.keys.KeyOrder.{KeyOrder}
use Rattle.gx_sorting.specs.ValueOrder.{value_cmp}

-- a key has a value or is empty: the empty key stands above all values or below them
abbrev pub presence : Bool → Option AtomValue → ℕ
presence greatest None = if greatest then 2 else 0
presence greatest (Some v) = 1

-- any value will do for the empty key, which is compared by this with the empty key alone
abbrev pub value_there : Option AtomValue → AtomValue
value_there None = Truth false
value_there (Some v) = v

-- the ascending order
abbrev pub rising : Bool → Option AtomValue → Option AtomValue → Ordering
rising greatest = then_cmp (on (presence greatest) nat_cmp) (on value_there value_cmp)

-- descending turns the ascending order round, and the place of the empty key with it
abbrev pub key_cmp : KeyOrder → Option AtomValue → Option AtomValue → Ordering
key_cmp order = if order.descending then flip_args (rising order.greatest) else rising order.greatest

-- the value of the first key; a key that is missing is an empty one
abbrev pub leading_value : List (Option Atomic) → Option AtomValue
leading_value [] = None
leading_value (None ∷ keys) = None
leading_value (Some atomic ∷ keys) = Some atomic.value

-- first keys by the first order; where these are equal, the keys behind them by the other orders
abbrev pub keys_cmp : List KeyOrder → List (Option Atomic) → List (Option Atomic) → Ordering
keys_cmp [] = λ keys others. Equal
keys_cmp (order ∷ orders) = then_cmp (on leading_value (key_cmp order)) (on (drop 1) (keys_cmp orders))

-- the order of the language: keys stand before others where they are less
abbrev pub keys_precede : List KeyOrder → List (Option Atomic) → List (Option Atomic) → Bool
keys_precede orders keys others = is_lt (keys_cmp orders keys others)
