-- States, which are sets of places, and the transitions from one to another by the shapes that are read.
use Rattle.std.specs.Prelude.{◌≡◌, ℕ, ◌<◌, Bool, List, [], length, Option, None, Some, IfSome, Vec, slice_get}
use Rattle.indexmap.specs.IndexMap.{IndexMap, get}
use Rattle.gx_types.specs.declared.item_type.ItemType.{ItemType}
use Rattle.gx_types.specs.SchemaSet.{SchemaSet}
use Rattle.gx_types.specs.SequenceType.{SequenceType}
use Rattle.gx_include_takes.specs.declared.reading.Reading.{Reading}
use Rattle.gx_include_takes.specs.declared.reading.Symbol.{Symbol}
use Rattle.gx_include_takes.specs.declared.reading.Feature.{Feature}
use Rattle.gx_include_takes.specs.contracts.reading.ReadingPartialEq.TheImpl as readings
use Rattle.gx_include_takes.specs.contracts.reading.SymbolPartialEq.TheImpl as same_symbols
use Rattle.gx_include_takes.specs.contracts.reading.FeaturePartialEq.TheImpl as same_features
use Rattle.gx_include_takes.specs.Features.{accepts, is_read}
use Rattle.gx_include_takes.specs.Following.{AreComing, IsMask}

-- what `==` says of two readings
abbrev pub same_reading : Reading → Reading → Bool
same_reading = (readings.ghosts).eq

-- what `==` says of two symbols
abbrev pub same_symbol : Symbol → Symbol → Bool
same_symbol = (same_symbols.ghosts).eq

-- what `==` says of two features
abbrev pub same_feature : Feature → Feature → Bool
same_feature = (same_features.ghosts).eq

-- the places of a state, none where there is no state
abbrev pub places_kept : {B : Type 0} → Option (Vec ℕ B) → List ℕ
places_kept None = []
places_kept (Some places) = places.items

-- the set of places of the state of a number
abbrev pub places_at : {B : Type 0} → List (Vec ℕ B) → ℕ → List ℕ
places_at states number = places_kept (slice_get states number)

-- the places of one state come to those of another one, over item types that pass a test
pub record IsTransition {A B : Type 0} (t : SequenceType) (rows : List (Vec ℕ A)) (test : ItemType → Bool) (states : List (Vec ℕ B)) (origin target : ℕ) : Type 0 where
  pub origin_within : origin < length states
  pub target_within : target < length states
  pub coming : AreComing t rows test (places_at states origin) (places_at states target)

-- each target that is kept is that of its reading
abbrev pub AreTransitions : {A B S : Type 0} → SequenceType → List (Vec ℕ A) → SchemaSet → List (Vec ℕ B) → IndexMap Reading ℕ S → Type 0
AreTransitions t rows schemas states targets =
    (reading : Reading) → IfSome (get same_reading targets reading) (λ target. IsTransition t rows (is_read reading.symbol schemas) states reading.state target)

-- each mask that is kept is that of its feature
abbrev pub AreMasks : {A S : Type 0} → SequenceType → SchemaSet → IndexMap Feature (Vec ℕ A) S → Type 0
AreMasks t schemas masks = (feature : Feature) → IfSome (get same_feature masks feature) (λ mask. IsMask t (accepts feature schemas) mask.items)

-- states keep their numbers
abbrev pub AreNumberedAlike : {B : Type 0} → List (Vec ℕ B) → List (Vec ℕ B) → Type 0
AreNumberedAlike {B} states more = (number : ℕ) (places : Vec ℕ B) → slice_get states number ≡ Some places → slice_get more number ≡ Some places

-- one state, of these places, and no target and no mask
pub record IsAnew {A B S Z : Type 0} (places : List ℕ) (states : List (Vec ℕ B)) (targets : IndexMap Reading ℕ S) (masks : IndexMap Feature (Vec ℕ A) Z) : Type 0 where
  pub one : length states ≡ 1
  pub state : places_at states 0 ≡ places
  pub none : (reading : Reading) → get same_reading targets reading ≡ None
  pub no_mask : (feature : Feature) → get same_feature masks feature ≡ None
