-- The plain tree that a type stands for.
use Rattle.gx_types.specs.declared.sequence_type.TyNode.{TyNode}
use Rattle.gx_types.specs.declared.sequence_type.TyNode.TheVariants.{Never, Empty, Item, Seq, Alt, Optional, Star, Plus}
use Rattle.gx_types.specs.SequenceType.{SequenceType, never, nothing, item, both, either, optional, star, plus}

abbrev pub type_of : TyNode → SequenceType
type_of Never = never
type_of Empty = nothing
type_of (Item kind) = item kind.value
type_of (Seq a b) = both a.value b.value
type_of (Alt a b) = either a.value b.value
type_of (Optional a) = optional a.value
type_of (Star a) = star a.value
type_of (Plus a) = plus a.value
