use Rattle.gx_grammar.proofs.Avoiding.{closed_decides}
use Rattle.gx_grammar.proofs.Sorted.{sorted_decides}
use Rattle.gx_grammar.proofs.laws.sorted_decides.Goals as goal

pub returns-clause-before_tokens : goal.returns-clause-before_tokens
returns-clause-before_tokens g c = λ f lawful right A ts s. sorted_decides g.G.HasLanguage.language lawful f right A ts s

pub returns-clause-ended : goal.returns-clause-ended
returns-clause-ended g c = λ f lawful right A t u takes s. closed_decides g.G.HasLanguage.language f right lawful A t u g.K.HasTexts.texts g.K.HasTexts.beginnings takes s
