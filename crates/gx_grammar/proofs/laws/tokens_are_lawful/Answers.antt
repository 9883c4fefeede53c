use Rattle.gx_grammar.proofs.Gaps.{lawful_gap}
use Rattle.gx_grammar.proofs.Tokens.{lawful_name, lawful_run, lawful_word}
use Rattle.gx_grammar.proofs.Words.{lawful_one_of}
use Rattle.gx_grammar.proofs.laws.tokens_are_lawful.Goals as goal

pub returns-clause-words : goal.returns-clause-words
returns-clause-words g c = λ value word test. lawful_word value word test

pub returns-clause-runs : goal.returns-clause-runs
returns-clause-runs g c = λ value test stop. lawful_run value test stop

pub returns-clause-names : goal.returns-clause-names
returns-clause-names g c = λ value first test stop. lawful_name value first test stop

pub returns-clause-gaps : goal.returns-clause-gaps
returns-clause-gaps g c = λ value allowed delimiters. lawful_gap allowed delimiters value

pub returns-clause-choices : goal.returns-clause-choices
returns-clause-choices g c = λ entries e. lawful_one_of entries e
