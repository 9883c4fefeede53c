use Rattle.gx_grammar_examples.proofs.Steps.{steps_readable, steps_tree, steps_verdict, one_tree}
use Rattle.gx_grammar_examples.proofs.laws.steps_are_readable.Goals as goal

pub returns-clause-readable : goal.returns-clause-readable
returns-clause-readable c = steps_readable

pub returns-clause-verdict : goal.returns-clause-verdict
returns-clause-verdict c = steps_verdict

pub returns-clause-tree : goal.returns-clause-tree
returns-clause-tree c = steps_tree

pub returns-clause-one_tree : goal.returns-clause-one_tree
returns-clause-one_tree c = one_tree
