use Rattle.std.proofs.Common.{codes}
use Rattle.gx_grammar.specs.Value.{nothing}
use Rattle.gx_xml.specs.Tokens.{symbol}
use Rattle.gx_xml.specs.Grammar.{past, past_space, past_equals}
use Rattle.gx_xml.proofs.Steps.{did_on}
use Rattle.gx_xml.proofs.phrases.equals.Goals as goal

pub returns-clause-read : goal.returns-clause-read
unfolding past_equals
returns-clause-read c = λ A w after h.
    c.space.ensures.read (λ b. past (symbol (codes "=")) (past_space A)) w after
    (did_on (symbol (codes "=")) _ nothing w _ _ _ c.symbol.ensures.read (c.space-2.ensures.read (λ b. A) w after h))
