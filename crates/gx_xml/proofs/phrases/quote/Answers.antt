use Rattle.std.proofs.Common.{subst}
use Rattle.gx_xml.specs.Standings.{Did}
use Rattle.gx_xml.specs.declared.marks.Choice.TheVariants.{Quote}
use Rattle.gx_xml.specs.Tokens.{choice}
use Rattle.gx_xml.specs.Nodes.{mark_value}
use Rattle.gx_xml.proofs.Steps.{did_on}
use Rattle.gx_xml.proofs.phrases.quote.Goals as goal

pub returns-clause-read : goal.returns-clause-read
returns-clause-read c = λ k w after h.
    did_on (choice Quote) _ (mark_value c.choice.result) w _ _ _ c.choice.ensures.read
    (subst (λ q. Did w c.choice.new.self after (k q)) c.quote_of.ensures h)
