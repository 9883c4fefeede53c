-- What a hash join comes to: the right source and the keys of its items are evaluated once, and then, for each left item, the result for the
-- right items that have an equal key.
use Rattle.std.specs.Prelude.{ℕ, List, [], ◌∷◌, ◌++◌, map, Option, option_map, slice_get}
use Rattle.gx_atomic.specs.declared.join_key.JoinKey.{JoinKey}
use Rattle.gx_atomic.specs.JoinKey.{join_key_of}
use Rattle.gx_model.specs.Forest.{Forest}
use Rattle.gx_model.specs.Item.{Item, Items}
use Rattle.gx_core.specs.Comparing.{atoms_among}
use Rattle.gx_core.specs.Meaning.{Bindings, Denotation}
use Rattle.gx_core.specs.Outcome.{Outcome, gives, after, given}
use Rattle.gx_join_table.specs.Joining.{rows_with_a_key}

-- the keys of a value; where a node is among its items, there are none
abbrev pub keys_of_items : Items → Option (List JoinKey)
keys_of_items items = option_map (map join_key_of) (atoms_among items)

-- the keys of each right item, in order, behind those that there are
abbrev pub table_of : (key : Item → Forest → Outcome Items) → (table : List (List JoinKey)) → (right : Items) → Forest
    → Outcome (List (List JoinKey))
table_of key table [] forest = gives table forest
table_of key table (y ∷ ys) forest =
    after (key y forest) (λ found left. given (keys_of_items found) (λ keys. table_of key (table ++ keys ∷ []) ys left))

-- the result for the right items at these rows; `done` is what there is so far
abbrev pub for_rows : (result : Item → Forest → Outcome Items) → (right done : Items) → (rows : List ℕ) → Forest → Outcome Items
for_rows result right done [] forest = gives done forest
for_rows result right done (row ∷ rows) forest =
    given (slice_get right row) (λ y. after (result y forest) (λ more left. for_rows result right (done ++ more) rows left))

-- for each left item, the result for the right items that have a key equal to one of its keys
abbrev pub for_pairs : (key : Item → Forest → Outcome Items) → (result : Item → Item → Forest → Outcome Items) → (table : List (List JoinKey))
    → (right done : Items) → (left : Items) → Forest → Outcome Items
for_pairs key result table right done [] forest = gives done forest
for_pairs key result table right done (x ∷ xs) forest =
    after (key x forest) (λ found now. given (keys_of_items found) (λ keys.
    after (for_rows (result x) right done (rows_with_a_key keys table) now) (λ values last. for_pairs key result table right values xs last)))

-- a join by its two variables, its two sources, its two keys and its result
pub record JoinParts (E : Type 0) : Type 0 where
  pub left : ℕ
  pub right : ℕ
  pub source : E
  pub other : E
  pub left_key : E
  pub right_key : E
  pub result : E

abbrev pub left_key_at : JoinParts Denotation → Bindings → Item → Forest → Outcome Items
left_key_at join bindings x forest = join.left_key ((join.left, x ∷ []) ∷ bindings) forest

abbrev pub right_key_at : JoinParts Denotation → Bindings → Item → Forest → Outcome Items
right_key_at join bindings y forest = join.right_key ((join.right, y ∷ []) ∷ bindings) forest

abbrev pub result_at : JoinParts Denotation → Bindings → Item → Item → Forest → Outcome Items
result_at join bindings x y forest = join.result ((join.right, y ∷ []) ∷ (join.left, x ∷ []) ∷ bindings) forest

-- over the items of the left source and those of the right one; where there is none of these, no key is evaluated
abbrev pub joined_with : JoinParts Denotation → Bindings → (left right : Items) → Forest → Outcome Items
joined_with join bindings left [] forest = gives [] forest
joined_with join bindings left (y ∷ ys) forest =
    after (table_of (right_key_at join bindings) [] (y ∷ ys) forest)
    (λ table now. for_pairs (left_key_at join bindings) (result_at join bindings) table (y ∷ ys) [] left now)

-- over the items of the left source; where there is none, nothing else is evaluated
abbrev pub joined_over : JoinParts Denotation → Bindings → (left : Items) → Forest → Outcome Items
joined_over join bindings [] forest = gives [] forest
joined_over join bindings (x ∷ xs) forest = after (join.other bindings forest) (λ ys now. joined_with join bindings (x ∷ xs) ys now)

abbrev pub hash_join : JoinParts Denotation → Denotation
hash_join join bindings forest = after (join.source bindings forest) (λ xs left. joined_over join bindings xs left)
