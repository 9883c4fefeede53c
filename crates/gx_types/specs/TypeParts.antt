-- The parts of a type are smaller than it.
use Rattle.std.specs.Prelude.{◌≤◌, max}
use Rattle.std.proofs.Common.{arith}
use Rattle.gx_types.specs.declared.sequence_type.TyNode.{TyNode}
use Rattle.gx_types.specs.declared.sequence_type.TyNode.TheVariants.{Never, Empty, Item, Seq, Alt, Optional, Star, Plus}
use Rattle.gx_types.specs.declared.sequence_type.Ty.TheDeep.{deep-TyNode}
use Rattle.gx_types.specs.SequenceType.{type_size}
use Rattle.gx_types.specs.TypeView.{type_of}

-- each part of a type is smaller than the type
pub type_parts_are_smaller : (t : TyNode) → max (deep-TyNode t) 0 ≤ type_size (type_of t)
type_parts_are_smaller Never = omega arith
type_parts_are_smaller Empty = omega arith
type_parts_are_smaller (Item kind) = omega arith
type_parts_are_smaller (Seq a b) = omega arith
type_parts_are_smaller (Alt a b) = omega arith
type_parts_are_smaller (Optional a) = omega arith
type_parts_are_smaller (Star a) = omega arith
type_parts_are_smaller (Plus a) = omega arith
