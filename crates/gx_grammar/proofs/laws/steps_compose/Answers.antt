use Rattle.gx_grammar.proofs.Ran.{ran_both, ran_empty, ran_keyed, ran_made}
use Rattle.gx_grammar.proofs.laws.steps_compose.Goals as goal

pub returns-clause-both : goal.returns-clause-both
returns-clause-both g c = λ call A B v w a b d h k. ran_both g.G.HasLanguage.language call A B v w a b d h k

pub returns-clause-keyed : goal.returns-clause-keyed
returns-clause-keyed g c = λ call t f v w a b d h k. ran_keyed g.G.HasLanguage.language call t f v w a b d h k

pub returns-clause-made : goal.returns-clause-made
returns-clause-made g c = λ call f A v a b h. ran_made g.G.HasLanguage.language call f A v a b h

pub returns-clause-nothing : goal.returns-clause-nothing
returns-clause-nothing g c = λ call a. ran_empty g.G.HasLanguage.language call a
