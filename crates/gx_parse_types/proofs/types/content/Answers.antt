use Rattle.gx_parse_grammar.specs.Types.{content}
use Rattle.gx_parse_types.proofs.types.content.Goals as goal

pub returns-in-Node : goal.returns-in-Node
unfolding content
returns-in-Node c = λ n. rw c.in-Node.is (c.nothing_inside.ensures n)

pub returns-in-Text : goal.returns-in-Text
unfolding content
returns-in-Text c = λ n. rw c.in-Text.is (c.nothing_inside-in-Text.ensures n)

pub returns-in-Document : goal.returns-in-Document
unfolding content
returns-in-Document c = λ n. rw c.in-Document.is (c.document.ensures n)

pub returns-in-Element : goal.returns-in-Element
unfolding content
returns-in-Element c = λ n. rw c.in-Element.is (c.named_content.ensures n)

pub returns-in-Attribute : goal.returns-in-Attribute
unfolding content
returns-in-Attribute c = λ n. rw c.in-Attribute.is (c.named_content-in-Attribute.ensures n)

pub returns-in-SchemaElement : goal.returns-in-SchemaElement
unfolding content
returns-in-SchemaElement c = λ n. rw c.in-SchemaElement.is (c.declared_content.ensures n)
