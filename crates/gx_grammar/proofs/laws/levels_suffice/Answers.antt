use Rattle.gx_grammar.proofs.Levels.{never_too_deep}
use Rattle.gx_grammar.proofs.laws.levels_suffice.Goals as goal

pub returns : goal.returns
returns g c = λ A readable k levelled bound ranks levels text h. never_too_deep g.G.HasLanguage.language A readable k levelled bound ranks levels text h
