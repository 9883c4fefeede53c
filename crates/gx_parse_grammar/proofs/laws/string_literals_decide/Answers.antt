use Rattle.gx_parse_grammar.proofs.StringsSorted.{string_sorted}
use Rattle.gx_parse_grammar.proofs.Sorted.{right}
use Rattle.gx_parse_grammar.proofs.laws.string_literals_decide.Goals as goal

pub returns : goal.returns
returns c = λ at q us. string_sorted at (right at) q us
