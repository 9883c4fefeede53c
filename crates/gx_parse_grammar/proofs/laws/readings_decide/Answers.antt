use Rattle.gx_parse_grammar.proofs.Verdict.{verdict}
use Rattle.gx_parse_grammar.proofs.laws.readings_decide.Goals as goal

pub returns : goal.returns
returns c = verdict
