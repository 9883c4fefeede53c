use Rattle.gx_grammar.proofs.Ran.{ran_idle, ran_looked, ran_makes, ran_map}
use Rattle.gx_grammar.proofs.laws.values_are_made.Goals as goal

pub returns-clause-ended : goal.returns-clause-ended
returns-clause-ended g c = λ v here read d. ran_idle v here read d

pub returns-clause-mapped : goal.returns-clause-mapped
returns-clause-mapped g c = λ v f a b first h. ran_map v f a b first h

pub returns-clause-makes : goal.returns-clause-makes
returns-clause-makes g c = λ v w a b d read h k. ran_makes v w a b d read h k

pub returns-clause-looked : goal.returns-clause-looked
returns-clause-looked g c = λ v taken a b d guard inner outer h k same. ran_looked v taken a b d guard inner outer h k same
