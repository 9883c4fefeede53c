use Rattle.gx_machine.proofs.single.cast_of.Goals as goal

pub returns-in-Atom-clause-value : goal.returns-in-Atom-clause-value
returns-in-Atom-clause-value c = λ optional forest later. rw c.in-Atom.is (c.cast_of_atom.ensures.value forest)

pub returns-in-Atom-clause-failed : goal.returns-in-Atom-clause-failed
returns-in-Atom-clause-failed c = λ optional forest later. rw c.in-Atom.is (c.cast_of_atom.ensures.failed forest)
