-- The tuples that clauses have found, and what is left to do of a block.
use Rattle.std.specs.Prelude.{ℕ, suc, List, [], ◌∷◌, ◌++◌, length, map, flat_map, take, drop, Option, slice_get, Vec}
use Rattle.std.specs.Global.{Global}
use Rattle.std.specs.List.{range_with_len}
use Rattle.gx_facets.specs.declared.Atomic.{Atomic}
use Rattle.gx_sorting.specs.declared.keys.KeyOrder.{KeyOrder}
use Rattle.gx_sorting.specs.Sorting.{sorted}
use Rattle.gx_sorting.specs.Tuples.{tuple_precedes}
use Rattle.gx_model.specs.Forest.{Forest}
use Rattle.gx_model.specs.Item.{Items}
use Rattle.gx_core.specs.Bindings.{position_numbers}
use Rattle.gx_core.specs.ExpressionView.{kind_of_clause, order_of_key, part_of_key, parts_of_block}
use Rattle.gx_core.specs.Outcome.{Outcome, gives, after, given}
use Rattle.gx_core.specs.Comparing.{condition_of}
use Rattle.gx_core.specs.Meaning.{Context, Bindings, Denotation, item_bound}
use Rattle.gx_joins.specs.JoinedMeaning.{joined_meaning as joined}
use Rattle.gx_core.specs.Blocks.{Tuple, key_of, tuple_keys, tuples_of, tuples_of_each, tuples_if}
use Rattle.gx_machine.specs.BoundItems.{items_of}
use Rattle.gx_machine.specs.declared.bound.Bound.{Bound}
use Rattle.gx_machine.specs.declared.tuples.Tuples.{Tuples}
use Rattle.gx_machine.specs.declared.blocks.BlockRest.{BlockRest}
use Rattle.gx_machine.specs.declared.blocks.BlockWork.{BlockWork}
use Rattle.gx_machine.specs.declared.blocks.BlockWork.TheVariants.{Walk, Gather, Each, Assign, Test, Keys, TakeKey, Sort, Return}

-- the keys of all tuples, behind one another; what is bound in each tuple; and the numbers of those that are sorted
pub record Found : Type 0 where
  pub keys : List (Option Atomic)
  pub rows : List Bindings
  pub numbers : List ℕ

abbrev pub none_found : Found
none_found = record { keys = []; rows = []; numbers = [] }

-- what is bound in a tuple
abbrev pub Row : Type 0
Row = Vec (ℕ × Bound) Global

abbrev pub row_in : Forest → Row → Bindings
row_in later row = items_of later row.items

abbrev pub found_in : Forest → Tuples → Found
found_in later tuples = record { keys = tuples.keys.items; rows = map (row_in later) tuples.rows.items; numbers = tuples.numbers.items }

-- with more tuples, and with more keys
abbrev pub found_more : Found → List Tuple → Found
found_more found tuples = record { keys = found.keys ++ flat_map (λ t. t.keys) tuples; rows = found.rows ++ map (λ t. t.bound) tuples; numbers = found.numbers }

abbrev pub with_keys : Found → List (Option Atomic) → Found
with_keys found keys = record { keys = found.keys ++ keys; rows = found.rows; numbers = found.numbers }

-- what a block leaves that has tuples from one number on and keys from another, and numbers from a third
abbrev pub before_block : Found → (first_key first_row : ℕ) → Found
before_block found first_key first_row = record { keys = take first_key found.keys; rows = take first_row found.rows; numbers = found.numbers }

abbrev pub before_returns : Found → (start first_row : ℕ) → Found
before_returns found start first_row = record { keys = found.keys; rows = take first_row found.rows; numbers = take start found.numbers }

-- what stands beside the values: the marks of operands, the items that loops go over, and the tuples that are found
pub record Stacks : Type 0 where
  pub marks : List ℕ
  pub sources : Items
  pub found : Found

abbrev pub with_sources : Stacks → Items → Stacks
with_sources stacks sources = record { marks = stacks.marks; sources = sources; found = stacks.found }

abbrev pub with_found : Stacks → Found → Stacks
with_found stacks found = record { marks = stacks.marks; sources = stacks.sources; found = found }

-- the numbers of so many tuples in the order of their keys
abbrev pub numbers_in_order : List KeyOrder → List (Option Atomic) → (count : ℕ) → List ℕ
numbers_in_order orders keys count = sorted (tuple_precedes orders keys) (range_with_len 0 count)

-- what is returned for the tuples with these numbers
abbrev pub returned_for : Denotation → (outer : Bindings) → (done : Items) → (rows : List Bindings) → (numbers : List ℕ) → Forest → Outcome Items
returned_for body outer done rows [] forest = gives done forest
returned_for body outer done rows (number ∷ numbers) forest =
    given (slice_get rows number) (λ row. after (body (row ++ outer) forest) (λ more left. returned_for body outer (done ++ more) rows numbers left))

-- how many bindings a turn of a loop makes: that of its variable, and that of its position where it has one
abbrev pub bound_in_turn : (position : ℕ) → ℕ
bound_in_turn position = suc (length (position_numbers position))

-- the tuples of the clauses that are left, where the innermost bindings are those of the clauses before
abbrev pub walked : Context → BlockRest → Bindings → Forest → Outcome (List Tuple)
walked k rest bindings forest =
    tuples_of (map kind_of_clause rest.clauses.now) (map order_of_key rest.keys.now) (map (joined k) (parts_of_block rest.clauses.now rest.keys.now rest.body.now))
    (take rest.bound bindings) (drop rest.bound bindings) forest

-- those for each item of a loop
abbrev pub walked_each : Context → BlockRest → (variable position : ℕ) → Bindings → (number : ℕ) → Items → Forest → Outcome (List Tuple)
walked_each k rest variable position bindings number items forest =
    tuples_of_each (λ n x now. walked k rest (item_bound variable position n x ++ bindings) now) number items forest

-- what is left to do of a block, and then the next work
abbrev pub block_resumed : Context → BlockWork → BlockRest → (values : Items) → Stacks → Bindings → Forest → (Items → Stacks → Forest → Outcome Items) → Outcome Items
block_resumed k Walk rest values stacks bindings forest next = after (walked k rest bindings forest) (λ ts left. next values (with_found stacks (found_more stacks.found ts)) left)
block_resumed k (Gather variable position first) rest values stacks bindings forest next =
    after (walked_each k rest variable position bindings 1 (drop first values) forest) (λ ts left. next (take first values) (with_found stacks (found_more stacks.found ts)) left)
block_resumed k (Each variable position number following start) rest values stacks bindings forest next =
    after (walked_each k rest variable position bindings number (drop following stacks.sources) forest)
    (λ ts left. next values (with_found (with_sources stacks (take start stacks.sources)) (found_more stacks.found ts)) left)
block_resumed k (Assign variable first) rest values stacks bindings forest next =
    after (walked k rest ((variable, drop first values) ∷ bindings) forest) (λ ts left. next (take first values) (with_found stacks (found_more stacks.found ts)) left)
block_resumed k (Test first) rest values stacks bindings forest next =
    given (condition_of (drop first values))
    (λ truth. after (tuples_if truth (λ now. walked k rest bindings now) forest) (λ ts left. next (take first values) (with_found stacks (found_more stacks.found ts)) left))
block_resumed k Keys rest values stacks bindings forest next =
    after (tuple_keys (map order_of_key rest.keys.now) (map (λ key. joined k (part_of_key key)) rest.keys.now) bindings forest) (λ ks left. next values (with_found stacks (with_keys stacks.found ks)) left)
block_resumed k (TakeKey first) rest values stacks bindings forest next =
    given (key_of (drop first values)) (λ key. next (take first values) (with_found stacks (with_keys stacks.found (key ∷ []))) forest)
block_resumed k (Sort first_key first_row) rest values stacks bindings forest next =
    after (returned_for (joined k rest.body.now) bindings values (drop first_row stacks.found.rows)
    (numbers_in_order (map order_of_key rest.keys.now) (drop first_key stacks.found.keys) (length (drop first_row stacks.found.rows))) forest)
    (λ vs left. next vs (with_found stacks (before_block stacks.found first_key first_row)) left)
block_resumed k (Return following start first_row) rest values stacks bindings forest next =
    after (returned_for (joined k rest.body.now) bindings values (drop first_row stacks.found.rows) (drop following stacks.found.numbers) forest)
    (λ vs left. next vs (with_found stacks (before_returns stacks.found start first_row)) left)
