use Rattle.std.proofs.Common.{◌≡◌, drop}
use Rattle.std.specs.Prelude.{is_none}
use Rattle.std.specs.List.{list_any}
use Rattle.gx_tree.specs.Binding.{attribute_uri_read}
use Rattle.gx_xml.specs.declared.tag.TagAttribute.{TagAttribute}
use Rattle.gx_xml.proofs.resolve.is_any_unbound.Given as goal

abbrev pub invariant-loop-attribute : goal.invariant-loop-attribute
invariant-loop-attribute l = list_any (λ (a : TagAttribute). is_none (attribute_uri_read l.bindings a.prefix)) (drop l.attribute-index l.attributes) ≡ list_any (λ (a : TagAttribute). is_none (attribute_uri_read l.bindings a.prefix)) l.attributes
