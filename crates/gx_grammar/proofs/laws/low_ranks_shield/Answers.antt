use Rattle.gx_grammar.proofs.Levels.{below_shields}
use Rattle.gx_grammar.proofs.laws.low_ranks_shield.Goals as goal

pub returns : goal.returns
returns g c = λ k rank n A h. below_shields g.G.HasLanguage.language k rank n A h
