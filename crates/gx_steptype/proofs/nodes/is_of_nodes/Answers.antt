use Rattle.std.proofs.Common.{sym, ◌∙◌}
use Rattle.gx_steptype.proofs.OneNode.{element_included, attribute_included, text_included, document_included}
use Rattle.gx_steptype.proofs.nodes.is_of_nodes.Goals as goal

pub returns-in-Element : goal.returns-in-Element
returns-in-Element c = λ h. rw c.in-Element.is (element_included c.args.schemas.now c.in-Element.name c.in-Element.kind c.types-types.ensures.invariant.grounded (c.is_known.ensures h))

pub returns-in-Attribute : goal.returns-in-Attribute
returns-in-Attribute c =
    λ h. rw c.in-Attribute.is (attribute_included c.args.schemas.now c.in-Attribute.name c.in-Attribute.kind c.types-types.ensures.invariant.grounded (sym c.is_simple.ensures ∙ h))

pub returns-in-Text : goal.returns-in-Text
returns-in-Text c = λ h. rw c.in-Text.is (text_included c.args.schemas.now c.types-types.ensures.invariant.grounded)

pub returns-in-Document : goal.returns-in-Document
returns-in-Document c = λ h. rw c.in-Document.is (document_included c.args.schemas.now c.in-Document.field-0 c.types-types.ensures.invariant.grounded)
