use Rattle.std.proofs.Common.{codes}
use Rattle.gx_grammar.specs.Value.{nothing}
use Rattle.gx_xml.specs.declared.marks.Choice.TheVariants.{Answer}
use Rattle.gx_xml.specs.Nodes.{mark_value}
use Rattle.gx_xml.specs.Tokens.{choice, symbol}
use Rattle.gx_xml.specs.Grammar.{past, past_space, past_quote, past_standalone}
use Rattle.gx_xml.proofs.Steps.{did_on}
use Rattle.gx_xml.proofs.declaration.standalone.Goals as goal

pub returns-clause-read : goal.returns-clause-read
unfolding past_standalone
returns-clause-read c = λ A w after h.
    c.equals.ensures.read _ w after
    (c.quote-quote.ensures.read (λ q. past (choice Answer) (past_quote q (past_space (past (symbol (codes "?>")) A)))) w after
    (did_on (choice Answer) _ (mark_value c.choice.result) w _ _ _ c.choice.ensures.read
    (c.closing.ensures.read _ w after
    (c.space.ensures.read (λ b. past (symbol (codes "?>")) A) w after
    (did_on (symbol (codes "?>")) _ nothing w _ _ _ c.symbol.ensures.read h)))))
