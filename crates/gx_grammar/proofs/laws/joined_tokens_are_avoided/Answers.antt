use Rattle.gx_grammar.proofs.Avoiding.{joined_never, joined_opening}
use Rattle.gx_grammar.proofs.laws.joined_tokens_are_avoided.Goals as goal

pub returns-clause-never : goal.returns-clause-never
returns-clause-never g c = λ faults lawful value never x y z v w d k j. (let t = g.T.HasTokens in joined_never t.derives t.derives_behind t.opens t.opens_behind t.scan t.seen faults lawful value g.K.HasTexts.texts never x y z v w d k j)

pub returns-clause-opening : goal.returns-clause-opening
returns-clause-opening g c = λ faults lawful value none opening x y z r v w d k j. (let t = g.T.HasTokens in joined_opening t.derives t.derives_behind t.opens t.opens_behind t.scan t.seen faults lawful value g.K.HasTexts.beginnings none opening x y z r v w d k j)
