use Rattle.std.proofs.Common.{false}
use Rattle.gx_xml.specs.declared.marks.Choice.TheVariants.{Encoding, Declaration}
use Rattle.gx_xml.specs.Nodes.{mark_value, mark_of}
use Rattle.gx_xml.specs.Tokens.{choice}
use Rattle.gx_xml.specs.Grammar.{past, on, past_quote, spaced, past_encoding, behind_encoding}
use Rattle.gx_xml.proofs.Steps.{did_on}
use Rattle.gx_xml.proofs.declaration.encoding.Goals as goal

pub returns-clause-read : goal.returns-clause-read
unfolding past_encoding
returns-clause-read c = λ A w after h.
    c.equals.ensures.read _ w after
    (c.quote-quote.ensures.read (λ q. past (choice Encoding) (past_quote q (spaced (λ b. on (choice (Declaration b false)) (λ v. behind_encoding (mark_of v) A))))) w after
    (did_on (choice Encoding) _ (mark_value c.choice.result) w _ _ _ c.choice.ensures.read
    (c.closing.ensures.read _ w after
    (c.space-spaced.ensures.read (λ b. on (choice (Declaration b false)) (λ v. behind_encoding (mark_of v) A)) w after
    (did_on (choice (Declaration c.space-spaced.result false)) _ (mark_value c.choice-mark.result) w _ _ _ c.choice-mark.ensures.read
    (c.behind_encoding.ensures.read A w after h))))))
