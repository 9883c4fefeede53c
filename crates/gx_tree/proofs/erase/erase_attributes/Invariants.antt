use Rattle.std.proofs.Common.{◌≡◌, take, map}
use Rattle.gx_tree.specs.Erasure.{erased_attribute}
use Rattle.gx_tree.proofs.erase.erase_attributes.Given as goal

abbrev pub invariant-loop-attribute : goal.invariant-loop-attribute
invariant-loop-attribute l = l.copies.items ≡ map erased_attribute (take l.attribute-index l.attributes.items)
