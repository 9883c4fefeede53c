use Rattle.gx_grammar.proofs.Tokens.{head_cut, run_passes, run_whole}
use Rattle.gx_grammar.proofs.laws.runs_are_fronts.Goals as goal

pub returns-clause-whole : goal.returns-clause-whole
returns-clause-whole c = λ test x. run_whole test x

pub returns-clause-passes : goal.returns-clause-passes
returns-clause-passes c = λ test x. run_passes test x

pub returns-clause-cut : goal.returns-clause-cut
returns-clause-cut c = λ test y z e. head_cut test y z e
