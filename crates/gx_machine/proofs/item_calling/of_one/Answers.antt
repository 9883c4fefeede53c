use Rattle.gx_machine.proofs.item_calling.of_one.Goals as goal

pub returns-in-Name-clause-value : goal.returns-in-Name-clause-value
returns-in-Name-clause-value c = λ later x. rw c.in-Name.is (c.written_name.ensures.value later x)

pub returns-in-Name-clause-failed : goal.returns-in-Name-clause-failed
returns-in-Name-clause-failed c = λ later x. rw c.in-Name.is (c.written_name.ensures.failed later x)

pub returns-in-LocalName-clause-value : goal.returns-in-LocalName-clause-value
returns-in-LocalName-clause-value c = λ later x. rw c.in-LocalName.is (c.local_name.ensures.value later x)

pub returns-in-LocalName-clause-failed : goal.returns-in-LocalName-clause-failed
returns-in-LocalName-clause-failed c = λ later x. rw c.in-LocalName.is (c.local_name.ensures.failed later x)

pub returns-in-Root-clause-value : goal.returns-in-Root-clause-value
returns-in-Root-clause-value c = λ later x. rw c.in-Root.is (c.root.ensures.value later x)

pub returns-in-Root-clause-failed : goal.returns-in-Root-clause-failed
returns-in-Root-clause-failed c = λ later x. rw c.in-Root.is (c.root.ensures.failed later x)

pub returns-in-Reverse-clause-value : goal.returns-in-Reverse-clause-value
returns-in-Reverse-clause-value c = λ later x. rw c.in-Reverse.is (c.reversed.ensures.value c.args.store.now later)

pub returns-in-Reverse-clause-failed : goal.returns-in-Reverse-clause-failed
returns-in-Reverse-clause-failed c = λ later x. rw c.in-Reverse.is (c.reversed.ensures.failed _)

pub returns-in-ZeroOrOne-clause-value : goal.returns-in-ZeroOrOne-clause-value
returns-in-ZeroOrOne-clause-value c = λ later x. rw c.in-ZeroOrOne.is (c.zero_or_one.ensures.value c.args.store.now later)

pub returns-in-ZeroOrOne-clause-failed : goal.returns-in-ZeroOrOne-clause-failed
returns-in-ZeroOrOne-clause-failed c = λ later x. rw c.in-ZeroOrOne.is (c.zero_or_one.ensures.failed c.args.store.now later)

pub returns-in-OneOrMore-clause-value : goal.returns-in-OneOrMore-clause-value
returns-in-OneOrMore-clause-value c = λ later x. rw c.in-OneOrMore.is (c.one_or_more.ensures.value c.args.store.now later)

pub returns-in-OneOrMore-clause-failed : goal.returns-in-OneOrMore-clause-failed
returns-in-OneOrMore-clause-failed c = λ later x. rw c.in-OneOrMore.is (c.one_or_more.ensures.failed c.args.store.now later)

pub returns-in-ExactlyOne-clause-value : goal.returns-in-ExactlyOne-clause-value
returns-in-ExactlyOne-clause-value c = λ later x. rw c.in-ExactlyOne.is (c.exactly_one.ensures.value c.args.store.now later)

pub returns-in-ExactlyOne-clause-failed : goal.returns-in-ExactlyOne-clause-failed
returns-in-ExactlyOne-clause-failed c = λ later x. rw c.in-ExactlyOne.is (c.exactly_one.ensures.failed c.args.store.now later)
