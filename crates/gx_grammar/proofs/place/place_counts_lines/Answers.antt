use Rattle.gx_grammar.proofs.Places.{counts_lines}
use Rattle.gx_grammar.proofs.place.place_counts_lines.Goals as goal

pub returns : goal.returns
returns c = λ text n h. counts_lines text n h
