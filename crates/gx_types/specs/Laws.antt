-- The laws of the rules that make types of types.
use Rattle.std.specs.Prelude.{◌≡◌, ℕ, ◌<◌, ◌≤◌, true, List, [], ◌∷◌, ◌++◌, ◌⊎◌, ◌↔◌, length}
use Rattle.std.specs.Bool.{IsTrue}
use Rattle.gx_types.specs.declared.shape.Shape.{Shape}
use Rattle.gx_types.specs.SchemaSet.{SchemaSet}
use Rattle.gx_types.specs.Occurs.{Occurs}
use Rattle.gx_types.specs.Occurrence.{occurrence_of}
use Rattle.gx_types.specs.SequenceType.{SequenceType, both, optional, star, plus}
use Rattle.gx_types.specs.SameType.{same_type}
use Rattle.gx_types.specs.Indicator.{optional_of, star_of, plus_of, times_by}
use Rattle.gx_types.specs.Choice.{with_members, has_empty, gathered, choice_among, members_of, AreDistinctTypes}
use Rattle.gx_types.specs.Prime.{prime_of, items_of}
use Rattle.gx_types.specs.Alternatives.{alternatives_among, item_alternatives, choice_from}
use Rattle.gx_types.specs.TypeRules.{positions_of, factored, limited, joined_types, sequence_of, choice_of, times_of}
use Rattle.gx_types.specs.Takes.{Takes, Each, EachShape, SomeTakes, SomeItemTakes, all_joined}
use Rattle.gx_base.specs.declared.limits.TheConstants.{TYPE_POSITIONS}

-- an occurrence allows a number of items
pub record Allows (o : Occurs) (n : ℕ) : Type 0 where
  pub least : o.least ≤ n
  pub greatest : o.greatest < 2 → n ≤ o.greatest

-- two types take the same lists
abbrev pub TakeTheSame : SchemaSet → SequenceType → SequenceType → Type 0
TakeTheSame schemas t u = (shapes : List Shape) → Takes schemas t shapes ↔ Takes schemas u shapes

-- a list that is made of lists of a type, as many as an occurrence allows
pub record JoinedWithin (schemas : SchemaSet) (t : SequenceType) (o : Occurs) (shapes : List Shape) : Type 0 where
  pub parts : List (List Shape)
  pub joined : shapes ≡ all_joined parts
  pub each : Each (Takes schemas t) parts
  pub count : Allows o (length parts)

-- Occurrence

-- the occurrence of a type allows the length of a list that the type takes
abbrev pub OccurrenceBoundsLength : Type 0
OccurrenceBoundsLength = (schemas : SchemaSet) (t : SequenceType) (shapes : List Shape) → Takes schemas t shapes → Allows (occurrence_of t) (length shapes)

-- Sequences

-- the sequence of two types takes what its parts take, one after the other
abbrev pub JoinedTypesAreASequence : Type 0
JoinedTypesAreASequence = (schemas : SchemaSet) (t u : SequenceType) → TakeTheSame schemas (both t u) (joined_types t u)

-- so it does within the limit on positions
abbrev pub SequenceTakesParts : Type 0
SequenceTakesParts =
    (schemas : SchemaSet) (t u : SequenceType) (front rest : List Shape) → Takes schemas t front → Takes schemas u rest → Takes schemas (sequence_of t u) (front ++ rest)

-- of no more positions than the limit, it takes nothing else
abbrev pub SequenceTakesNoMore : Type 0
SequenceTakesNoMore =
    (schemas : SchemaSet) (t u : SequenceType) (shapes : List Shape) → positions_of (joined_types t u) ≤ TYPE_POSITIONS → Takes schemas (sequence_of t u) shapes → Takes schemas (both t u) shapes

-- Choices

-- the choice of all types of a list takes what some of them takes
abbrev pub ChoiceTakesSome : Type 0
ChoiceTakesSome = (schemas : SchemaSet) (types : List SequenceType) (shapes : List Shape) → SomeTakes schemas types shapes ↔ Takes schemas (choice_among types) shapes

-- the choice of all types of a list is made of their alternatives, each of which it has once
abbrev pub ChoiceIsFromAlternatives : Type 0
ChoiceIsFromAlternatives = (types : List SequenceType) → gathered types ≡ choice_from (alternatives_among types)

-- a choice with the members of a type behind its own takes what it took
abbrev pub ChoiceKeepsItsMembers : Type 0
ChoiceKeepsItsMembers = (schemas : SchemaSet) (choice t : SequenceType) (shapes : List Shape) → Takes schemas choice shapes → Takes schemas (with_members choice t) shapes

-- and what the type takes, but for the empty list of a member that is the empty sequence
abbrev pub ChoiceTakesNewMembers : Type 0
ChoiceTakesNewMembers =
    (schemas : SchemaSet) (choice t : SequenceType) (shapes : List Shape) → Takes schemas t shapes → Takes schemas (with_members choice t) shapes ⊎ ((has_empty t ≡ true) × (shapes ≡ []))

-- the choice of two types takes what either takes, within the limit on positions
abbrev pub ChoiceTakesMembers : Type 0
ChoiceTakesMembers =
    (schemas : SchemaSet) (t u : SequenceType) (shapes : List Shape) → (Takes schemas t shapes ⊎ Takes schemas u shapes) → Takes schemas (choice_of t u) shapes

-- of no more positions than the limit, it takes nothing else
abbrev pub ChoiceTakesNoMore : Type 0
ChoiceTakesNoMore =
    (schemas : SchemaSet) (t u : SequenceType) (shapes : List Shape) → positions_of (choice_among (t ∷ u ∷ [])) ≤ TYPE_POSITIONS → Takes schemas (choice_of t u) shapes → Takes schemas t shapes ⊎ Takes schemas u shapes

-- no two members of a choice are equal, and no two of a prime type
pub record MembersAreDistinct : Type 0 where
  pub choice : (types : List SequenceType) → AreDistinctTypes (members_of (gathered types))
  pub prime : (t : SequenceType) → AreDistinctTypes (members_of (prime_of t))

-- Indicators

-- a type with an indicator on it takes what the indicator says
pub record IndicatorsAreExact : Type 0 where
  pub optional : (schemas : SchemaSet) (t : SequenceType) → TakeTheSame schemas (optional t) (optional_of t)
  pub star : (schemas : SchemaSet) (t : SequenceType) → TakeTheSame schemas (star t) (star_of t)
  pub plus : (schemas : SchemaSet) (t : SequenceType) → TakeTheSame schemas (plus t) (plus_of t)

-- a type as often as an occurrence says, however long it is, takes as many lists of the type, joined, as the occurrence allows
abbrev pub RepeatedTakesJoined : Type 0
RepeatedTakesJoined =
    (schemas : SchemaSet) (t : SequenceType) (o : Occurs) (shapes : List Shape) → JoinedWithin schemas t o shapes → Takes schemas (times_by t o.least o.greatest) shapes

-- and nothing else
abbrev pub RepeatedTakesNoMore : Type 0
RepeatedTakesNoMore =
    (schemas : SchemaSet) (t : SequenceType) (o : Occurs) (shapes : List Shape) → o.least ≤ 1 → o.least ≤ o.greatest → Takes schemas (times_by t o.least o.greatest) shapes → JoinedWithin schemas t o shapes

-- so it does within the limit on positions
abbrev pub TimesTakesJoined : Type 0
TimesTakesJoined =
    (schemas : SchemaSet) (t : SequenceType) (o : Occurs) (parts : List (List Shape)) → Each (Takes schemas t) parts → Allows o (length parts) → Takes schemas (times_of t o) (all_joined parts)

-- of no more positions than the limit, it takes nothing else
abbrev pub TimesTakesNoMore : Type 0
TimesTakesNoMore =
    (schemas : SchemaSet) (t : SequenceType) (o : Occurs) (shapes : List Shape) → o.least ≤ 1 → o.least ≤ o.greatest
    → positions_of (times_by t o.least o.greatest) ≤ TYPE_POSITIONS → Takes schemas (times_of t o) shapes → JoinedWithin schemas t o shapes

-- Prime types, and the limit on positions

-- the prime type is made of the item types, each of which it has once
abbrev pub PrimeIsFromItems : Type 0
PrimeIsFromItems = (t : SequenceType) → prime_of t ≡ choice_from (item_alternatives t)

-- a prime type takes the lists of one shape that an item type of the type takes
pub record PrimeTakesItems (schemas : SchemaSet) (t : SequenceType) (shapes : List Shape) : Type 0 where
  pub shape : Shape
  pub alone : shapes ≡ shape ∷ []
  pub taken : SomeItemTakes schemas (items_of t) shape

abbrev pub PrimeIsAChoiceOfItems : Type 0
PrimeIsAChoiceOfItems = (schemas : SchemaSet) (t : SequenceType) (shapes : List Shape) → Takes schemas (prime_of t) shapes ↔ PrimeTakesItems schemas t shapes

-- an item type of a type takes each shape of a list that the type takes
abbrev pub ItemsTakeEachShape : Type 0
ItemsTakeEachShape = (schemas : SchemaSet) (t : SequenceType) (shapes : List Shape) → Takes schemas t shapes → EachShape (SomeItemTakes schemas (items_of t)) shapes

-- the prime type, as often as a type occurs, takes what the type takes
abbrev pub FactoredTakesType : Type 0
FactoredTakesType = (schemas : SchemaSet) (t : SequenceType) (shapes : List Shape) → Takes schemas t shapes → Takes schemas (factored t) shapes

-- so it does within the limit on positions
abbrev pub PrimeTakesType : Type 0
PrimeTakesType =
    (schemas : SchemaSet) (t : SequenceType) (shapes : List Shape) → Takes schemas t shapes → Takes schemas (times_of (prime_of t) (occurrence_of t)) shapes

-- the limit on positions loses nothing
abbrev pub LimitedTakesType : Type 0
LimitedTakesType = (schemas : SchemaSet) (t : SequenceType) (shapes : List Shape) → Takes schemas t shapes → Takes schemas (limited t) shapes

-- and keeps a type of no more positions than the limit
abbrev pub ShortTypesStay : Type 0
ShortTypesStay = (t : SequenceType) → positions_of t ≤ TYPE_POSITIONS → limited t ≡ t

-- Equality

-- equal types take the same lists
abbrev pub EqualTypesTakeTheSame : Type 0
EqualTypesTakeTheSame =
    (schemas : SchemaSet) (t u : SequenceType) (shapes : List Shape) → IsTrue (same_type t u) → Takes schemas u shapes → Takes schemas t shapes
