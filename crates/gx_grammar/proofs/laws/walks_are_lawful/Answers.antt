use Rattle.gx_grammar.proofs.Walks.{lawful_walk}
use Rattle.gx_grammar.proofs.laws.walks_are_lawful.Goals as goal

pub returns : goal.returns
returns g c = λ value w start. lawful_walk value w start
