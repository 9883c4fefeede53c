-- Facts of types that the rules that make types of types keep.
use Rattle.gx_types.specs.declared.item_type.ItemType.{ItemType}
use Rattle.gx_types.specs.SequenceType.{SequenceType, never, nothing, item, both, either, optional, star, plus}

-- a fact of each item type in a type
abbrev pub HoldsOfItems : (ItemType → Type 0) → SequenceType → Type 0
HoldsOfItems Fact never = Unit {0}
HoldsOfItems Fact nothing = Unit {0}
HoldsOfItems Fact (item kind) = Fact kind
HoldsOfItems Fact (both first second) = HoldsOfItems Fact first × HoldsOfItems Fact second
HoldsOfItems Fact (either first second) = HoldsOfItems Fact first × HoldsOfItems Fact second
HoldsOfItems Fact (optional part) = HoldsOfItems Fact part
HoldsOfItems Fact (star part) = HoldsOfItems Fact part
HoldsOfItems Fact (plus part) = HoldsOfItems Fact part

-- a type is neither `none` nor that of the empty sequence
abbrev pub IsSomething : SequenceType → Type 0
IsSomething never = ⊥
IsSomething nothing = ⊥
IsSomething (item kind) = Unit {0}
IsSomething (both first second) = Unit {0}
IsSomething (either first second) = Unit {0}
IsSomething (optional part) = Unit {0}
IsSomething (star part) = Unit {0}
IsSomething (plus part) = Unit {0}

-- the rules keep a fact of types, where types of which another fact holds are put together: the first holds of `none` and of the
-- empty sequence, and is the second of all other types
pub record RulesKeep (Fact OfPart : SequenceType → Type 0) : Type 0 where
  pub of_none : Fact never
  pub of_empty : Fact nothing
  pub of_whole : (t : SequenceType) → OfPart t → Fact t
  pub of_part : (t : SequenceType) → IsSomething t → Fact t → OfPart t
  pub in_both : (first second : SequenceType) → OfPart first → OfPart second → OfPart (both first second)
  pub in_either : (first second : SequenceType) → OfPart first → OfPart second → OfPart (either first second)
  pub in_optional : (part : SequenceType) → OfPart part → OfPart (optional part)
  pub in_star : (part : SequenceType) → OfPart part → OfPart (star part)
  pub in_plus : (part : SequenceType) → OfPart part → OfPart (plus part)
  pub optional_as_star : (part : SequenceType) → OfPart (optional part) → OfPart (star part)
  pub plus_as_star : (part : SequenceType) → OfPart (plus part) → OfPart (star part)
  pub of_alternatives : (first second : SequenceType) → OfPart (either first second) → OfPart first × OfPart second

-- a fact of a type holds of its parts
pub record HoldsOfParts (OfPart : SequenceType → Type 0) : Type 0 where
  pub of_both : (first second : SequenceType) → OfPart (both first second) → OfPart first × OfPart second
  pub of_either : (first second : SequenceType) → OfPart (either first second) → OfPart first × OfPart second
  pub of_optional : (part : SequenceType) → OfPart (optional part) → OfPart part
  pub of_star : (part : SequenceType) → OfPart (star part) → OfPart part
  pub of_plus : (part : SequenceType) → OfPart (plus part) → OfPart part
