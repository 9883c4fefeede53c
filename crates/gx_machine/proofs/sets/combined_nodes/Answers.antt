use Rattle.gx_machine.proofs.sets.combined_nodes.Goals as goal

pub returns-in-Union : goal.returns-in-Union
returns-in-Union c = λ later x. rw c.in-Union.is (c.union.ensures later x)

pub returns-in-Intersect : goal.returns-in-Intersect
returns-in-Intersect c = λ later x. rw c.in-Intersect.is (c.intersect.ensures later x)

pub returns-in-Except : goal.returns-in-Except
returns-in-Except c = λ later x. rw c.in-Except.is (c.except.ensures later x)
