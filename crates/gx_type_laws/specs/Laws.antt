-- The laws of the rules that make types of types, over the item types and the positions of what they make.
use Rattle.std.specs.Prelude.{ℕ, ◌+◌, ◌≤◌, Bool, List, [], ◌∷◌}
use Rattle.std.specs.Bool.{IsTrue}
use Rattle.gx_types.specs.declared.item_type.ItemType.{ItemType}
use Rattle.gx_types.specs.SchemaInvariant.{HoldsOfEach}
use Rattle.gx_types.specs.SequenceType.{SequenceType}
use Rattle.gx_types.specs.Indicator.{optional_of, star_of, plus_of, times_by}
use Rattle.gx_types.specs.Choice.{choice_among}
use Rattle.gx_types.specs.Prime.{prime_of}
use Rattle.gx_types.specs.TypeRules.{positions_of, joined_types, factored, limited}
use Rattle.gx_type_laws.specs.Kept.{HoldsOfItems}

-- each item type in a type passes a test
abbrev pub EachItemPasses : (ItemType → Bool) → SequenceType → Type 0
EachItemPasses passes t = HoldsOfItems (λ kind. IsTrue (passes kind)) t

-- the item types of what is made stand in its parts
pub record RulesKeepItems : Type 0 where
  pub joined : (passes : ItemType → Bool) (t u : SequenceType) → EachItemPasses passes t → EachItemPasses passes u → EachItemPasses passes (joined_types t u)
  pub choice : (passes : ItemType → Bool) (types : List SequenceType) → HoldsOfEach (EachItemPasses passes) types → EachItemPasses passes (choice_among types)
  pub repeated : (passes : ItemType → Bool) (t : SequenceType) (least greatest : ℕ) → EachItemPasses passes t → EachItemPasses passes (times_by t least greatest)
  pub prime : (passes : ItemType → Bool) (t : SequenceType) → EachItemPasses passes t → EachItemPasses passes (prime_of t)
  pub limited : (passes : ItemType → Bool) (t : SequenceType) → EachItemPasses passes t → EachItemPasses passes (limited t)

-- how many positions the types of a list have together
abbrev pub all_positions : List SequenceType → ℕ
all_positions [] = 0
all_positions (t ∷ types) = positions_of t + all_positions types

-- what is made has no more positions than its parts
pub record RulesAddNoPositions : Type 0 where
  pub joined : (t u : SequenceType) → positions_of (joined_types t u) ≤ positions_of t + positions_of u
  pub choice : (types : List SequenceType) → positions_of (choice_among types) ≤ all_positions types
  pub optional : (t : SequenceType) → positions_of (optional_of t) ≤ positions_of t
  pub star : (t : SequenceType) → positions_of (star_of t) ≤ positions_of t
  pub plus : (t : SequenceType) → positions_of (plus_of t) ≤ positions_of t
  pub prime : (t : SequenceType) → positions_of (prime_of t) ≤ positions_of t
  pub factored : (t : SequenceType) → positions_of (factored t) ≤ positions_of t
