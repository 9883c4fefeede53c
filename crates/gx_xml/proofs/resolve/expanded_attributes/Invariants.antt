use Rattle.std.proofs.Common.{◌≡◌, take, map}
use Rattle.gx_xml.specs.Tags.{expanded_attribute}
use Rattle.gx_xml.proofs.resolve.expanded_attributes.Given as goal

abbrev pub invariant-loop-attribute : goal.invariant-loop-attribute
invariant-loop-attribute l = l.expanded.items ≡ map (expanded_attribute l.bindings) (take l.attribute-index l.attributes)
