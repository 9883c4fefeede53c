use Rattle.gx_grammar.proofs.Text.{same_verdict}
use Rattle.gx_grammar.proofs.laws.one_verdict.Goals as goal

pub returns : goal.returns
returns g c = λ A text r q a b. same_verdict g.G.HasLanguage.language A text r q a b
