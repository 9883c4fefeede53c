-- The children of an element are smaller than it.
use Rattle.std.specs.Prelude.{◌+◌, ◌≤◌, List, [], ◌∷◌}
use Rattle.std.proofs.Common.{arith}
use denote.Param.Weighed.{most, w_this}
use Rattle.gx_xml.specs.declared.source.SourceChild.{SourceChild}
use Rattle.gx_xml.specs.declared.source.SourceChild.TheVariants.{Element, Text}
use Rattle.gx_xml.specs.declared.source.SourceElement.TheInside.{Inside}
use Rattle.gx_xml.specs.declared.source.SourceElement.TheDeep.{deep-SourceElement, deep-SourceChild}
use Rattle.gx_xml.specs.declared.source.SourceElement.TheView.{size}
use Rattle.gx_xml.specs.SourceTree.{source, source_size, contents_size}
use Rattle.gx_xml.specs.SourceView.{contents_of}

-- no child of a list is larger than all of them together
most_le-contents_size : (cs : List SourceChild) → most (w_this.weight SourceChild deep-SourceChild) cs ≤ 1 + contents_size (contents_of cs)
unfolding size
most_le-contents_size [] = omega arith
most_le-contents_size (Element t ∷ cs) = omega (arith, most_le-contents_size cs)
most_le-contents_size (Text x ∷ cs) = omega (arith, most_le-contents_size cs)

pub children_are_smaller : (e : Inside) → deep-SourceElement e ≤ source_size (source e.name e.declarations.items e.attributes.items (contents_of e.children.items))
children_are_smaller e = omega (arith, most_le-contents_size e.children.items)
