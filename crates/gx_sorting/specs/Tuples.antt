-- Tuples by their numbers, with the keys of all tuples behind one another.
use Rattle.std.specs.Prelude.{ℕ, ◌*◌, Bool, List, length, drop, Option}
use Rattle.gx_facets.specs.declared.Atomic.{Atomic}
use Rattle.gx_sorting.specs.declared.keys.KeyOrder.{KeyOrder}
use Rattle.gx_sorting.specs.KeyComparison.{keys_precede}

-- the keys from those of a tuple on: each tuple has as many as there are orders
abbrev pub keys_from : List KeyOrder → List (Option Atomic) → ℕ → List (Option Atomic)
keys_from orders keys number = drop (number * length orders) keys

abbrev pub tuple_precedes : List KeyOrder → List (Option Atomic) → ℕ → ℕ → Bool
tuple_precedes orders keys m n = keys_precede orders (keys_from orders keys m) (keys_from orders keys n)
