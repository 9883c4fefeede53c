use Rattle.gx_parse_grammar.proofs.Verdict.{one_tree}
use Rattle.gx_parse_grammar.proofs.laws.one_tree.Goals as goal

pub returns : goal.returns
returns c = one_tree
