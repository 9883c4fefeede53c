use Rattle.gx_grammar.proofs.Sorted.{before_cut_less, decides_less, until_less}
use Rattle.gx_grammar.proofs.laws.less_may_follow.Goals as goal

pub returns-clause-stands : goal.returns-clause-stands
returns-clause-stands g c = λ A less x h. until_less g.G.HasLanguage.language A g.K.HasTexts.texts g.M.HasTexts.texts less x h

pub returns-clause-begins : goal.returns-clause-begins
returns-clause-begins g c = λ A less x h. before_cut_less g.G.HasLanguage.language A g.K.HasTexts.beginnings g.M.HasTexts.beginnings less x h

pub returns-clause-decides : goal.returns-clause-decides
returns-clause-decides g c = λ A less less_cut d. decides_less g.G.HasLanguage.language A g.K.HasTexts.texts g.K.HasTexts.beginnings g.M.HasTexts.texts g.M.HasTexts.beginnings less less_cut d
