use Rattle.gx_grammar_examples.proofs.Direct.{direct_readable, direct_tree, direct_verdict, one_tree}
use Rattle.gx_grammar_examples.proofs.laws.direct_elements_are_readable.Goals as goal

pub returns-clause-readable : goal.returns-clause-readable
returns-clause-readable c = direct_readable

pub returns-clause-verdict : goal.returns-clause-verdict
returns-clause-verdict c = direct_verdict

pub returns-clause-tree : goal.returns-clause-tree
returns-clause-tree c = direct_tree

pub returns-clause-one_tree : goal.returns-clause-one_tree
returns-clause-one_tree c = one_tree
