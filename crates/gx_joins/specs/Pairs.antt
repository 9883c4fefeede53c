-- When two loops over a comparison of keys come to the same as the hash join of their parts.
use Rattle.std.specs.Prelude.{◌≡◌, ◌≢◌, true, [], ◌∷◌, List}
use Rattle.std.specs.List.{All}
use Rattle.gx_base.specs.declared.code.Code.{Code}
use Rattle.gx_facets.specs.declared.Atomic.{Atomic}
use Rattle.gx_facets.specs.Value.{same_family}
use Rattle.gx_types.specs.SchemaSet.{SchemaSet}
use Rattle.gx_atomic.specs.Comparison.{pairs_of}
use Rattle.gx_model.specs.Forest.{Forest}
use Rattle.gx_model.specs.Growth.{Extends}
use Rattle.gx_model.specs.Honest.{IsHonest}
use Rattle.gx_model.specs.Item.{Item, Items, atoms}
use Rattle.gx_core.specs.declared.expression.Binder.{Binder}
use Rattle.gx_core.specs.declared.expression.BinaryOp.TheVariants as binary
use Rattle.gx_core.specs.declared.operator.Operator.TheVariants as operators
use Rattle.gx_core.specs.Meaning.{Context, Bindings, Denotation, denoted}
use Rattle.gx_core.specs.Outcome.{gives, raises, wrong}
use Rattle.gx_joins.specs.HashJoin.{JoinParts, right_key_at, hash_join}

-- ---- two loops

-- whether a left key has a value that a right key has
abbrev pub compared_keys : Context → JoinParts Denotation → Denotation
compared_keys context join = denoted context (operators.Binary binary.AnyEq) (join.left_key ∷ join.right_key ∷ [])

-- the result where it has, and else no item
abbrev pub tested_keys : Context → JoinParts Denotation → Denotation
tested_keys context join = denoted context operators.If (compared_keys context join ∷ join.result ∷ denoted context operators.Empty [] ∷ [])

-- this for each item of the left source, and then for each item of the right one
abbrev pub loops_of : Context → JoinParts Denotation → (left right : Binder) → Denotation
loops_of context join left right =
    denoted context (operators.For left 0) (join.source ∷ denoted context (operators.For right 0) (join.other ∷ tested_keys context join ∷ []) ∷ [])

-- ---- steady joins

-- a forest extends this one, and is honest
pub record HasGrown (schemas : SchemaSet) (now forest : Forest) : Type 0 where
  pub grown : Extends now forest
  pub honest : IsHonest schemas forest

-- a part has this value in each honest forest that extends this one, and leaves that forest as it is
abbrev pub StaysAt : SchemaSet → Denotation → Bindings → (now : Forest) → Items → Type 0
StaysAt schemas part bindings now value = (forest : Forest) → HasGrown schemas now forest → part bindings forest ≡ gives value forest

-- for a left item: the right source has these items, and where there are any, the left key these values
pub record IsSteadyForItem (schemas : SchemaSet) (join : JoinParts Denotation) (bindings : Bindings) (now : Forest) (right : Items) (left_values : List Atomic)
    (x : Item) : Type 0 where
  pub other : StaysAt schemas join.other ((join.left, x ∷ []) ∷ bindings) now right
  pub left_key : right ≢ [] → StaysAt schemas join.left_key ((join.left, x ∷ []) ∷ bindings) now (atoms left_values)

-- for a left and a right item: the keys have these values, which can be compared, and the result only adds trees that are honest
pub record IsSteadyForPair (schemas : SchemaSet) (join : JoinParts Denotation) (bindings : Bindings) (now : Forest) (left_values right_values : List Atomic)
    (x y : Item) : Type 0 where
  pub left_key : StaysAt schemas join.left_key ((join.right, y ∷ []) ∷ (join.left, x ∷ []) ∷ bindings) now (atoms left_values)
  pub right_key : StaysAt schemas join.right_key ((join.right, y ∷ []) ∷ (join.left, x ∷ []) ∷ bindings) now (atoms right_values)
  pub one_family : All (λ pair. same_family pair.0.value pair.1.value ≡ true) (pairs_of left_values right_values)
  pub grows : (before after : Forest) (value : Items) → HasGrown schemas now before
      → join.result ((join.right, y ∷ []) ∷ (join.left, x ∷ []) ∷ bindings) before ≡ gives value after → HasGrown schemas before after

-- for these left items, from the forest that they leave on: the right source has the same items for each of them, and both keys have the same
-- values wherever they stand
pub record IsSteadyJoin (schemas : SchemaSet) (join : JoinParts Denotation) (bindings : Bindings) (left : Items) (now : Forest) : Type 0 where
  pub honest : IsHonest schemas now
  pub right : Items
  pub left_values : Item → List Atomic
  pub right_values : Item → List Atomic
  pub other : join.other bindings now ≡ gives right now
  pub right_key : All (λ y. right_key_at join bindings y now ≡ gives (atoms (right_values y)) now) right
  pub items : All (λ x. IsSteadyForItem schemas join bindings now right (left_values x) x) left
  pub pairs : All (λ x. All (λ y. IsSteadyForPair schemas join bindings now (left_values x) (right_values y) x y) right) left

-- ---- the law

-- two loops come to what the hash join of their parts comes to, where the join is steady for the left items that there are; where the left
-- source has no value, both come to what it comes to
pub record LoopsAreHashJoins : Type 0 where
  pub steady : (context : Context) (join : JoinParts Denotation) (left right : Binder) (bindings : Bindings) (forest : Forest) (xs : Items) (now : Forest)
      → left.variable ≡ join.left → right.variable ≡ join.right → join.source bindings forest ≡ gives xs now
      → (xs ≢ [] → IsSteadyJoin context.schemas join bindings xs now) → loops_of context join left right bindings forest ≡ hash_join join bindings forest
  pub raised : (context : Context) (join : JoinParts Denotation) (left right : Binder) (bindings : Bindings) (forest : Forest) (code : Code)
      → join.source bindings forest ≡ raises code
      → (loops_of context join left right bindings forest ≡ raises code) × (hash_join join bindings forest ≡ raises code)
  pub failed : (context : Context) (join : JoinParts Denotation) (left right : Binder) (bindings : Bindings) (forest : Forest)
      → join.source bindings forest ≡ wrong
      → (loops_of context join left right bindings forest ≡ wrong) × (hash_join join bindings forest ≡ wrong)
