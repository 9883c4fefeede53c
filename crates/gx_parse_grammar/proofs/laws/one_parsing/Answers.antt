use Rattle.gx_parse_grammar.proofs.OneParsing.{one_parsing}
use Rattle.gx_parse_grammar.proofs.laws.one_parsing.Goals as goal

pub returns : goal.returns
returns c = one_parsing
