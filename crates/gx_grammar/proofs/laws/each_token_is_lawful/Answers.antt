use Rattle.gx_grammar.proofs.Tokens.{lawful_tokens}
use Rattle.gx_grammar.proofs.laws.each_token_is_lawful.Goals as goal

pub returns : goal.returns
returns g c = λ each. lawful_tokens g.G.HasLanguage.language each
