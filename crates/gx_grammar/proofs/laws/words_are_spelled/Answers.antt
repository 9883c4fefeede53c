use Rattle.gx_grammar.proofs.Words.{one_of_opened, one_of_opening, one_of_spells}
use Rattle.gx_grammar.proofs.laws.words_are_spelled.Goals as goal

pub returns-clause-stands : goal.returns-clause-stands
returns-clause-stands g c = λ entries v x y d. one_of_spells entries v x y d

pub returns-clause-opened : goal.returns-clause-opened
returns-clause-opened g c = λ entries x o. one_of_opened entries x o

pub returns-clause-opens : goal.returns-clause-opens
returns-clause-opens g c = λ entries x o. one_of_opening entries x o
