-- When two types are equal: part by part, with equal item types.
use Rattle.std.specs.Prelude.{Bool, true, false, ◌&&◌}
use Rattle.gx_types.specs.SameItemType.{same_item_type}
use Rattle.gx_types.specs.SequenceType.{SequenceType, never, nothing, item, both, either, optional, star, plus}

abbrev pub same_type : SequenceType → SequenceType → Bool
same_type never never = true
same_type nothing nothing = true
same_type (item a) (item b) = same_item_type a b
same_type (both a b) (both c d) = same_type a c && same_type b d
same_type (either a b) (either c d) = same_type a c && same_type b d
same_type (optional a) (optional b) = same_type a b
same_type (star a) (star b) = same_type a b
same_type (plus a) (plus b) = same_type a b
same_type _ _ = false
