use Rattle.gx_grammar.proofs.ByTokens.{avoided_choose, avoided_repeat}
use Rattle.gx_grammar.proofs.laws.avoided_tokens_decide.Goals as goal

pub returns-clause-choice : goal.returns-clause-choice
returns-clause-choice g c = λ f lawful right ts A B takes first opening avoids. avoided_choose g.G.HasLanguage.language lawful f right ts A takes first opening B g.K.HasTexts.texts g.K.HasTexts.beginnings avoids

pub returns-clause-repetition : goal.returns-clause-repetition
returns-clause-repetition g c = λ f lawful right ts A takes first opening avoids. avoided_repeat g.G.HasLanguage.language lawful f right ts A takes first opening g.K.HasTexts.texts g.K.HasTexts.beginnings avoids
