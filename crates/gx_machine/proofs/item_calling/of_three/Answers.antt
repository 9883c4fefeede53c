use Rattle.gx_machine.proofs.item_calling.of_three.Goals as goal

pub returns-in-Subsequence-clause-value : goal.returns-in-Subsequence-clause-value
returns-in-Subsequence-clause-value c = λ forest later. rw c.in-Subsequence.is (c.subsequence.ensures.value forest later)

pub returns-in-Subsequence-clause-failed : goal.returns-in-Subsequence-clause-failed
returns-in-Subsequence-clause-failed c = λ forest later. rw c.in-Subsequence.is (c.subsequence.ensures.failed forest later)

pub returns-in-InsertBefore-clause-value : goal.returns-in-InsertBefore-clause-value
returns-in-InsertBefore-clause-value c = λ forest later. rw c.in-InsertBefore.is (c.insert_before.ensures.value forest later)

pub returns-in-InsertBefore-clause-failed : goal.returns-in-InsertBefore-clause-failed
returns-in-InsertBefore-clause-failed c = λ forest later. rw c.in-InsertBefore.is (c.insert_before.ensures.failed forest later)
