use Rattle.gx_grammar.proofs.First.{before_begins, until_starts}
use Rattle.gx_grammar.proofs.laws.first_tokens_start.Goals as goal

pub returns-clause-stands : goal.returns-clause-stands
returns-clause-stands g c = λ f right A ts x h. until_starts g.G.HasLanguage.language f right A ts x h

pub returns-clause-begins : goal.returns-clause-begins
returns-clause-begins g c = λ f right A ts x h. before_begins g.G.HasLanguage.language f right A ts x h
