use Rattle.gx_parse_grammar.proofs.SomeParsing.{a_parsing_exists}
use Rattle.gx_parse_grammar.proofs.laws.a_parsing_exists.Goals as goal

pub returns : goal.returns
returns c = a_parsing_exists
