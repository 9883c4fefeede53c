-- Sequence types, as plain trees (Formal Semantics, section 2.4.1).
use Rattle.std.specs.Prelude.{ℕ, ◌+◌}
use Rattle.gx_types.specs.declared.item_type.ItemType.{ItemType}

pub data SequenceType : Type 0 where
  -- the type of no value
  never : SequenceType
  -- the type of the empty sequence
  nothing : SequenceType
  item : (kind : ItemType) → SequenceType
  both : (first second : SequenceType) → SequenceType
  either : (first second : SequenceType) → SequenceType
  optional : (part : SequenceType) → SequenceType
  star : (part : SequenceType) → SequenceType
  plus : (part : SequenceType) → SequenceType

-- how many types stand in a type
abbrev pub type_size : SequenceType → ℕ
type_size never = 1
type_size nothing = 1
type_size (item kind) = 1
type_size (both first second) = 1 + type_size first + type_size second
type_size (either first second) = 1 + type_size first + type_size second
type_size (optional part) = 1 + type_size part
type_size (star part) = 1 + type_size part
type_size (plus part) = 1 + type_size part
