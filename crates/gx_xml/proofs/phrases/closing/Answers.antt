use Rattle.std.proofs.Common.{◌∷◌, [], subst}
use Rattle.gx_grammar.specs.Value.{nothing}
use Rattle.gx_grammar.specs.Ran.{Ran}
use Rattle.gx_xml.specs.Standings.{read_document_token}
use Rattle.gx_xml.specs.Runs.{quote_character}
use Rattle.gx_xml.specs.Tokens.{symbol}
use Rattle.gx_xml.proofs.Steps.{did_on}
use Rattle.gx_xml.proofs.phrases.closing.Goals as goal

pub returns-clause-read : goal.returns-clause-read
returns-clause-read c = λ A w after h.
    did_on (symbol (quote_character c.args.quote ∷ [])) _ nothing w _ _ _
    (subst (λ q. Ran nothing c.args.reader.now c.symbol.new.self (read_document_token (symbol (q ∷ [])))) c.character.ensures c.symbol.ensures.read) h
