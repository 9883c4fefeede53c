-- Two loops come to what a hash join comes to.
use Rattle.std.proofs.Common.{◌≡◌, ◌≢◌, ℕ, suc, Bool, List, [], ◌∷◌, ◌++◌, map, filter, refl, sym, ap, ◌∙◌, append_assoc, append-nil}
use Rattle.std.specs.List.{All}
use Rattle.std.proofs.lemmas.List.Elements.{All-head, All-tail, All-weaker, All-filter}
use Rattle.gx_facets.specs.declared.Atomic.{Atomic}
use Rattle.gx_atomic.specs.declared.join_key.JoinKey.{JoinKey}
use Rattle.gx_atomic.specs.JoinKey.{join_key_of}
use Rattle.gx_types.specs.SchemaSet.{SchemaSet}
use Rattle.gx_model.specs.Forest.{Forest}
use Rattle.gx_model.specs.Honest.{IsHonest}
use Rattle.gx_model.specs.Item.{Item, Items, atoms}
use Rattle.gx_model.proofs.PublicLaws.{growth_is_an_order}
use Rattle.gx_core.specs.declared.expression.Binder.{Binder}
use Rattle.gx_core.specs.Meaning.{Bindings, Context, Denotation, for_each}
use Rattle.gx_core.specs.Outcome.{Outcome, gives, raises, wrong, after, given}
use Rattle.gx_join_table.specs.Joining.{rows_with_a_key}
use Rattle.gx_join_table.proofs.PublicLaws.{items_found_are_those_that_meet}
use Rattle.gx_joins.specs.HashJoin.{JoinParts, keys_of_items, table_of, for_rows, for_pairs, left_key_at, right_key_at, result_at, joined_with, joined_over}
use Rattle.gx_joins.specs.Pairs.{HasGrown, tested_keys, IsSteadyForItem, IsSteadyForPair, IsSteadyJoin, LoopsAreHashJoins}
use Rattle.gx_joins.proofs.EqualKeys.{values_meet, keys_of_atoms, tested_where_they_meet}
use Rattle.gx_joins.proofs.RightItems.{for_items, Grows, IsTested, loop_by_items, rows_by_items, behind_done, items_grow}

-- ---- the table

abbrev keys_for : (Item → List Atomic) → Item → List JoinKey
keys_for values item = map join_key_of (values item)

table_is : (key : Item → Forest → Outcome Items) (values : Item → List Atomic) (now : Forest) (right : Items)
    → All (λ y. key y now ≡ gives (atoms (values y)) now) right → (table : List (List JoinKey))
    → table_of key table right now ≡ gives (table ++ map (keys_for values) right) now
table_is key values now [] all table = ap (λ (rows : List (List JoinKey)). gives rows now) (sym (append-nil table))
table_is key values now (y ∷ right) all table =
    ap (λ o. after o (λ found left. given (keys_of_items found) (λ keys. table_of key (table ++ keys ∷ []) right left))) (All-head (λ z. key z now ≡ gives (atoms (values z)) now) y right all)
    ∙ ap (λ o. given o (λ keys. table_of key (table ++ keys ∷ []) right now)) (keys_of_atoms (values y))
    ∙ table_is key values now right (All-tail (λ z. key z now ≡ gives (atoms (values z)) now) y right all) (table ++ keys_for values y ∷ [])
    ∙ ap (λ (rows : List (List JoinKey)). gives rows now) (append_assoc table (keys_for values y ∷ []) (map (keys_for values) right))

-- ---- one left item

module _ (s : SchemaSet) (context : Context) (join : JoinParts Denotation) (bindings : Bindings) (now : Forest) (right : Items) (left_values right_values : Item → List Atomic) where
  abbrev AreSteadyPairs : Item → Type 0
  AreSteadyPairs x = All (λ y. IsSteadyForPair s join bindings now (left_values x) (right_values y) x y) right

  abbrev IsSteadyItem : Item → Type 0
  IsSteadyItem x = IsSteadyForItem s join bindings now right (left_values x) x

  abbrev meets : Item → Item → Bool
  meets x y = values_meet (left_values x) (right_values y)

  abbrev test_at : Item → Item → Forest → Outcome Items
  test_at x y forest = tested_keys context join ((join.right, y ∷ []) ∷ (join.left, x ∷ []) ∷ bindings) forest

  abbrev inner_at : Item → Forest → Outcome Items
  inner_at x forest = after (join.other ((join.left, x ∷ []) ∷ bindings) forest) (λ ys left. for_each (λ n y f. test_at x y f) 1 [] ys left)

  pair_grows : (x y : Item) → IsSteadyForPair s join bindings now (left_values x) (right_values y) x y → Grows (result_at join bindings x) (HasGrown s now) y
  pair_grows x y pair before later value extends e =
      let more : HasGrown s before later = pair.grows before later value extends e in
      record { grown = growth_is_an_order.transitive now before later extends.grown more.grown; honest = more.honest }

  pair_is_tested : (x y : Item) → IsSteadyForPair s join bindings now (left_values x) (right_values y) x y
      → IsTested (test_at x) (result_at join bindings x) (meets x) (HasGrown s now) y
  pair_is_tested x y pair forest extends =
      tested_where_they_meet context join ((join.right, y ∷ []) ∷ (join.left, x ∷ []) ∷ bindings) forest (left_values x) (right_values y)
      (pair.left_key forest extends) (pair.right_key forest extends) pair.one_family

  inner_is : (x : Item) (forest : Forest) → HasGrown s now forest → IsSteadyItem x → AreSteadyPairs x
      → inner_at x forest ≡ for_items (result_at join bindings x) [] (filter (meets x) right) forest
  inner_is x forest extends item pairs =
      ap (λ o. after o (λ ys left. for_each (λ n y f. test_at x y f) 1 [] ys left)) (item.other forest extends)
      ∙ loop_by_items (test_at x) (result_at join bindings x) (meets x) (HasGrown s now) right
      (All-weaker (λ y. IsSteadyForPair s join bindings now (left_values x) (right_values y) x y) (IsTested (test_at x) (result_at join bindings x) (meets x) (HasGrown s now)) (pair_is_tested x) right pairs)
      (All-weaker (λ y. IsSteadyForPair s join bindings now (left_values x) (right_values y) x y) (Grows (result_at join bindings x) (HasGrown s now)) (pair_grows x) right pairs)
      1 [] forest extends

  abbrev table : List (List JoinKey)
  table = map (keys_for right_values) right

  rows_are : (x : Item) (done : Items) (forest : Forest)
      → for_rows (result_at join bindings x) right done (rows_with_a_key (keys_for left_values x) table) forest
      ≡ for_items (result_at join bindings x) done (filter (meets x) right) forest
  rows_are x done forest =
      rows_by_items (result_at join bindings x) right (rows_with_a_key (keys_for left_values x) table) (filter (meets x) right)
      (items_found_are_those_that_meet {A = Item} (keys_for left_values x) (keys_for right_values) right) done forest

  -- ---- all left items

  abbrev rest_probed : (xs : Items) → Items → Forest → Outcome Items
  rest_probed xs done forest = for_pairs (left_key_at join bindings) (result_at join bindings) table right done xs forest

  abbrev rest_looped : (number : ℕ) → (xs : Items) → Items → Forest → Outcome Items
  rest_looped number xs done forest = for_each (λ n x f. inner_at x f) number done xs forest

  probed : right ≢ [] → (x : Item) (xs : Items) (done : Items) (forest : Forest) → HasGrown s now forest → IsSteadyItem x
      → rest_probed (x ∷ xs) done forest
      ≡ after (after (for_items (result_at join bindings x) [] (filter (meets x) right) forest) (λ values left. gives (done ++ values) left)) (rest_probed xs)
  probed some x xs done forest extends item =
      ap (λ o. after o (λ values left. given (keys_of_items values)
      (λ keys. after (for_rows (result_at join bindings x) right done (rows_with_a_key keys table) left) (rest_probed xs)))) (item.left_key some forest extends)
      ∙ ap (λ o. given o (λ keys. after (for_rows (result_at join bindings x) right done (rows_with_a_key keys table) forest) (rest_probed xs)))
      (keys_of_atoms (left_values x))
      ∙ ap (λ o. after o (rest_probed xs)) (rows_are x done forest ∙ behind_done (result_at join bindings x) done (filter (meets x) right) forest)

  found_grow : (x : Item) → AreSteadyPairs x → All (Grows (result_at join bindings x) (HasGrown s now)) (filter (meets x) right)
  found_grow x pairs =
      All-filter (meets x) (Grows (result_at join bindings x) (HasGrown s now)) right
      (All-weaker (λ y. IsSteadyForPair s join bindings now (left_values x) (right_values y) x y) (Grows (result_at join bindings x) (HasGrown s now)) (pair_grows x) right pairs)

  outer_is : right ≢ [] → (xs : Items) → All IsSteadyItem xs → All AreSteadyPairs xs → (number : ℕ) (done : Items) (forest : Forest) → HasGrown s now forest
      → rest_looped number xs done forest ≡ rest_probed xs done forest
  outer_is some [] items pairs number done forest extends = refl
  outer_is some (x ∷ xs) items pairs number done forest extends =
      ap (λ o. after o (λ more left. rest_looped (suc number) xs (done ++ more) left)) (inner_is x forest extends (All-head IsSteadyItem x xs items) (All-head AreSteadyPairs x xs pairs))
      ∙ by_outcome (for_items (result_at join bindings x) [] (filter (meets x) right) forest) refl
      (λ more left extended. outer_is some xs (All-tail IsSteadyItem x xs items) (All-tail AreSteadyPairs x xs pairs) (suc number) (done ++ more) left extended)
      ∙ sym (probed some x xs done forest extends (All-head IsSteadyItem x xs items))
    where
      by_outcome : (o : Outcome Items) → for_items (result_at join bindings x) [] (filter (meets x) right) forest ≡ o
          → ((more : Items) (left : Forest) → HasGrown s now left → rest_looped (suc number) xs (done ++ more) left ≡ rest_probed xs (done ++ more) left)
          → after o (λ more left. rest_looped (suc number) xs (done ++ more) left)
          ≡ after (after o (λ values left. gives (done ++ values) left)) (rest_probed xs)
      by_outcome (gives more left) is others =
          others more left
          (items_grow (result_at join bindings x) (HasGrown s now) (filter (meets x) right) (found_grow x (All-head AreSteadyPairs x xs pairs)) [] forest left more extends is)
      by_outcome (raises code) is others = refl
      by_outcome wrong is others = refl

  -- where there is no right item
  outer_none : right ≡ [] → (xs : Items) → All IsSteadyItem xs → All AreSteadyPairs xs → (number : ℕ) (done : Items) (forest : Forest) → HasGrown s now forest
      → rest_looped number xs done forest ≡ gives done forest
  outer_none none [] items pairs number done forest extends = refl
  outer_none none (x ∷ xs) items pairs number done forest extends =
      ap (λ o. after o (λ more left. rest_looped (suc number) xs (done ++ more) left))
      (inner_is x forest extends (All-head IsSteadyItem x xs items) (All-head AreSteadyPairs x xs pairs)
      ∙ ap (λ (ys : Items). for_items (result_at join bindings x) [] (filter (meets x) ys) forest) none)
      ∙ ap (λ (so_far : Items). rest_looped (suc number) xs so_far forest) (append-nil done)
      ∙ outer_none none xs (All-tail IsSteadyItem x xs items) (All-tail AreSteadyPairs x xs pairs) (suc number) done forest extends

-- ---- the law

-- the loops by the numbers of their variables
abbrev loops_by : Context → JoinParts Denotation → (left right : ℕ) → Bindings → Items → Forest → Outcome Items
loops_by context join left right bindings xs forest =
    for_each (λ n x f. after (join.other ((left, x ∷ []) ∷ bindings) f) (λ ys last. for_each
    (λ m y g. tested_keys context join ((right, y ∷ []) ∷ (left, x ∷ []) ∷ bindings) g) 1 [] ys last)) 1 [] xs forest

loops_by_variables : (context : Context) (join : JoinParts Denotation) (left right : Binder) (bindings : Bindings) (xs : Items) (now : Forest)
    → left.variable ≡ join.left → right.variable ≡ join.right
    → loops_by context join left.variable right.variable bindings xs now ≡ loops_by context join join.left join.right bindings xs now
loops_by_variables context join left right bindings xs now e f =
    ap (λ number. loops_by context join number right.variable bindings xs now) e
    ∙ ap (λ number. loops_by context join join.left number bindings xs now) f

over_right : (context : Context) (join : JoinParts Denotation) (bindings : Bindings) (now : Forest) (right : Items) (left_values right_values : Item → List Atomic)
    (xs : Items) → IsHonest context.schemas now → All (λ y. right_key_at join bindings y now ≡ gives (atoms (right_values y)) now) right
    → All (λ x. IsSteadyForItem context.schemas join bindings now right (left_values x) x) xs
    → All (λ x. All (λ y. IsSteadyForPair context.schemas join bindings now (left_values x) (right_values y) x y) right) xs
    → loops_by context join join.left join.right bindings xs now ≡ joined_with join bindings xs right now
over_right context join bindings now [] left_values right_values xs honest keys items pairs =
    outer_none context.schemas context join bindings now [] left_values right_values refl xs items pairs 1 [] now
    (record { grown = growth_is_an_order.reflexive now; honest = honest })
over_right context join bindings now (y ∷ ys) left_values right_values xs honest keys items pairs =
    outer_is context.schemas context join bindings now (y ∷ ys) left_values right_values (λ e. absurd (cc)) xs items pairs 1 [] now
    (record { grown = growth_is_an_order.reflexive now; honest = honest })
    ∙ sym (ap (λ o. after o (λ table last. for_pairs (left_key_at join bindings) (result_at join bindings) table (y ∷ ys) [] xs last))
    (table_is (right_key_at join bindings) right_values now (y ∷ ys) keys []))

over_items : (context : Context) (join : JoinParts Denotation) (bindings : Bindings) (xs : Items) (now : Forest)
    → (xs ≢ [] → IsSteadyJoin context.schemas join bindings xs now)
    → loops_by context join join.left join.right bindings xs now ≡ joined_over join bindings xs now
over_items context join bindings [] now steady = refl
over_items context join bindings (x ∷ xs) now steady =
    let join_is : IsSteadyJoin context.schemas join bindings (x ∷ xs) now = steady (λ e. absurd (cc)) in
    over_right context join bindings now join_is.right join_is.left_values join_is.right_values (x ∷ xs) join_is.honest join_is.right_key join_is.items join_is.pairs
    ∙ sym (ap (λ o. after o (λ ys left. joined_with join bindings (x ∷ xs) ys left)) join_is.other)

pub loops_are_hash_joins : LoopsAreHashJoins
loops_are_hash_joins = record {
  steady = λ context join left right bindings forest xs now e f source steady.
      ap (λ o. after o (loops_by context join left.variable right.variable bindings)) source
      ∙ loops_by_variables context join left right bindings xs now e f
      ∙ over_items context join bindings xs now steady
      ∙ sym (ap (λ o. after o (joined_over join bindings)) source);
  raised = λ context join left right bindings forest code source.
      (ap (λ o. after o (loops_by context join left.variable right.variable bindings)) source, ap (λ o. after o (joined_over join bindings)) source);
  failed = λ context join left right bindings forest source.
      (ap (λ o. after o (loops_by context join left.variable right.variable bindings)) source, ap (λ o. after o (joined_over join bindings)) source);
}
