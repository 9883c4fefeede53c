use Rattle.gx_machine.proofs.answer.of_pair.Goals as goal

pub returns-in-Atom-Atom-clause-value : goal.returns-in-Atom-Atom-clause-value
returns-in-Atom-Atom-clause-value c = λ forest later. rw (c.in-Atom-Atom.is-0, c.in-Atom-Atom.is-1) (c.of_atoms.ensures.value forest later)

pub returns-in-Atom-Atom-clause-failed : goal.returns-in-Atom-Atom-clause-failed
returns-in-Atom-Atom-clause-failed c = λ forest later. rw (c.in-Atom-Atom.is-0, c.in-Atom-Atom.is-1) (c.of_atoms.ensures.failed forest)

pub returns-in-Node-Node-clause-value : goal.returns-in-Node-Node-clause-value
returns-in-Node-Node-clause-value c = λ forest later. rw (c.in-Node-Node.is-0, c.in-Node-Node.is-1) (c.of_nodes.ensures.value forest later)

pub returns-in-Node-Node-clause-failed : goal.returns-in-Node-Node-clause-failed
returns-in-Node-Node-clause-failed c = λ forest later. rw (c.in-Node-Node.is-0, c.in-Node-Node.is-1) (c.of_nodes.ensures.failed forest later)
