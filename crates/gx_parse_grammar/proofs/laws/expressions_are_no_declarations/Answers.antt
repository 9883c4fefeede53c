use Rattle.gx_parse_grammar.proofs.Ahead.{declarations_avoided}
use Rattle.gx_parse_grammar.proofs.laws.expressions_are_no_declarations.Goals as goal

pub returns : goal.returns
returns c = λ at. declarations_avoided at
