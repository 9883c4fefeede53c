use Rattle.gx_parse_grammar.specs.Types.{type_tail}
use Rattle.gx_parse_types.proofs.types.type_tail.Goals as goal

pub returns-in-EmptySequence : goal.returns-in-EmptySequence
unfolding type_tail
returns-in-EmptySequence c = λ n. rw c.in-EmptySequence.is (c.empty_tail.ensures n)

pub returns-in-Item : goal.returns-in-Item
unfolding type_tail
returns-in-Item c = λ n. rw c.in-Item.is (c.item_tail.ensures n)

pub returns-in-Kind : goal.returns-in-Kind
unfolding type_tail
returns-in-Kind c = λ n. rw c.in-Kind.is (c.kind_tail.ensures n)

pub returns-in-Atomic : goal.returns-in-Atomic
unfolding type_tail
returns-in-Atomic c = λ n. rw c.in-Atomic.is (c.bare_tail.ensures n)
