use Rattle.gx_grammar.proofs.Tokens.{behind_short, run_short}
use Rattle.gx_grammar.proofs.Walks.{walk_short}
use Rattle.gx_grammar.proofs.laws.fronts_shorten.Goals as goal

pub returns-clause-common : goal.returns-clause-common
returns-clause-common c = λ word x. behind_short word x

pub returns-clause-run : goal.returns-clause-run
returns-clause-run c = λ test x. run_short test x

pub returns-clause-walk : goal.returns-clause-walk
returns-clause-walk c = λ w n x. walk_short w n x
