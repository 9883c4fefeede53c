use Rattle.gx_grammar.proofs.ByTokens.{tokens_choose, tokens_repeat}
use Rattle.gx_grammar.proofs.laws.tokens_decide.Goals as goal

pub returns-clause-choice : goal.returns-clause-choice
returns-clause-choice g c = λ f lawful right ts A B us given. tokens_choose g.G.HasLanguage.language lawful f right ts A B us given

pub returns-clause-repetition : goal.returns-clause-repetition
returns-clause-repetition g c = λ f lawful right ts A us given. tokens_repeat g.G.HasLanguage.language lawful f right ts A us given
