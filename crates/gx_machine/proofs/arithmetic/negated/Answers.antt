use Rattle.gx_machine.proofs.arithmetic.negated.Goals as goal

pub returns-in-Atom-clause-value : goal.returns-in-Atom-clause-value
returns-in-Atom-clause-value c = λ forest later. rw c.in-Atom.is (c.negated_atom.ensures.value forest)

pub returns-in-Atom-clause-failed : goal.returns-in-Atom-clause-failed
returns-in-Atom-clause-failed c = λ forest later. rw c.in-Atom.is (c.negated_atom.ensures.failed forest)
