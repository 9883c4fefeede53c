use Rattle.gx_grammar.proofs.Avoiding.{avoids_more}
use Rattle.gx_grammar.proofs.ByTokens.{apart_avoids}
use Rattle.gx_grammar.proofs.laws.tokens_are_avoided.Goals as goal

pub returns-clause-apart : goal.returns-clause-apart
returns-clause-apart g c = λ f lawful right ts us full apart. apart_avoids g.G.HasLanguage.language lawful f right ts us full apart

pub returns-clause-more : goal.returns-clause-more
returns-clause-more g c = λ t ts one others. avoids_more g.G.HasLanguage.language t ts g.K.HasTexts.texts g.K.HasTexts.beginnings one others
