use Rattle.gx_typetext.specs.Grammar.{word_content}
use Rattle.gx_typetext.proofs.names.content.Goals as goal

pub returns-in-Document : goal.returns-in-Document
unfolding word_content
returns-in-Document c = λ call. rw c.in-Document.is (c.document.ensures call)

pub returns-in-Element : goal.returns-in-Element
unfolding word_content
returns-in-Element c = λ call. rw c.in-Element.is (c.test_content.ensures call)

pub returns-in-Attribute : goal.returns-in-Attribute
unfolding word_content
returns-in-Attribute c = λ call. rw c.in-Attribute.is (c.test_content-in-Attribute.ensures call)

pub returns-in-Schema : goal.returns-in-Schema
unfolding word_content
returns-in-Schema c = λ call. rw c.in-Schema.is (c.declared_content.ensures call)

pub returns-in-Never : goal.returns-in-Never
unfolding word_content
returns-in-Never c = λ call. rw c.in-Never.is (c.empty_content.ensures call)

pub returns-in-Empty : goal.returns-in-Empty
unfolding word_content
returns-in-Empty c = λ call. rw c.in-Empty.is (c.empty_content-in-Empty.ensures call)

pub returns-in-Node : goal.returns-in-Node
unfolding word_content
returns-in-Node c = λ call. rw c.in-Node.is (c.empty_content-in-Node.ensures call)

pub returns-in-Item : goal.returns-in-Item
unfolding word_content
returns-in-Item c = λ call. rw c.in-Item.is (c.empty_content-in-Item.ensures call)

pub returns-in-Text : goal.returns-in-Text
unfolding word_content
returns-in-Text c = λ call. rw c.in-Text.is (c.empty_content-in-Text.ensures call)

pub returns-in-Other : goal.returns-in-Other
unfolding word_content
returns-in-Other c = λ call. rw c.in-Other.is (c.empty_content-in-Other.ensures call)
