use Rattle.gx_grammar.proofs.Ran.{ran_full, ran_left, ran_right, ran_none, ran_item}
use Rattle.gx_grammar.proofs.laws.looks_decide.Goals as goal

pub returns-clause-left : goal.returns-clause-left
returns-clause-left g c = λ call guard A B v taken a b d e h k. ran_left g.G.HasLanguage.language call guard A B v taken a b d e h k

pub returns-clause-right : goal.returns-clause-right
returns-clause-right g c = λ call guard A B v taken a b d e h k. ran_right g.G.HasLanguage.language call guard A B v taken a b d e h k

pub returns-clause-stop : goal.returns-clause-stop
returns-clause-stop g c = λ guard item count taken a b e h. ran_none guard item count taken a b e h

pub returns-clause-item : goal.returns-clause-item
returns-clause-item g c = λ guard item count v w taken a b d f e h k l. ran_item guard item count v w taken a b d f e h k l

pub returns-clause-full : goal.returns-clause-full
returns-clause-full g c = λ guard item a. ran_full guard item a
