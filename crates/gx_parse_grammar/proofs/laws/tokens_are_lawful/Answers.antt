use Rattle.gx_parse_grammar.proofs.Tokens.{token_lawful}
use Rattle.gx_parse_grammar.proofs.laws.tokens_are_lawful.Goals as goal

pub returns : goal.returns
returns c = token_lawful
