use Rattle.gx_grammar.proofs.ByCharacter.{character_chooses, character_repeats}
use Rattle.gx_grammar.proofs.laws.characters_decide.Goals as goal

pub returns-clause-choice : goal.returns-clause-choice
returns-clause-choice g c = λ f right test A B us given. character_chooses g.G.HasLanguage.language test f right A B us given

pub returns-clause-repetition : goal.returns-clause-repetition
returns-clause-repetition g c = λ f right test A us given. character_repeats g.G.HasLanguage.language test f right A us given
