use Rattle.gx_grammar.proofs.Text.{exact_text}
use Rattle.gx_grammar.proofs.Levels.{never_too_deep}
use Rattle.gx_grammar.proofs.laws.read_is_exact.Goals as goal

pub returns : goal.returns
returns g c = λ A readable k levelled bound ranks levels text h.
    exact_text g.G.HasLanguage.language readable.tokens readable.productions A readable.top levels text (never_too_deep g.G.HasLanguage.language A readable k levelled bound ranks levels text h)
