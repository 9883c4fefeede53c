use Rattle.std.proofs.Common.{map, take}
use Rattle.gx_tree.specs.declared.attribute.Attribute.{Attribute}
use Rattle.gx_serial.specs.PrefixSet.{HoldsAll}
use Rattle.gx_serial.proofs.prefix.prefix_set.Given as goal

abbrev pub invariant-loop-attribute : goal.invariant-loop-attribute
invariant-loop-attribute l = HoldsAll (map (λ (a : Attribute). a.name.prefix) (take l.attribute-index l.attributes)) l.set
