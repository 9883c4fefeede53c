use Rattle.std.proofs.Common.{◌≡◌, take}
use Rattle.gx_tree.proofs.tree.clone_attributes.Given as goal

abbrev pub invariant-loop-attribute : goal.invariant-loop-attribute
invariant-loop-attribute l = l.copies.items ≡ take l.attribute-index l.attributes.items
