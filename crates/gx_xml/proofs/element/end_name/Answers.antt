use Rattle.std.proofs.Common.{codes, sym, ◌∙◌}
use Rattle.gx_grammar.specs.Value.{nothing}
use Rattle.gx_xml.specs.Characters.{spelled}
use Rattle.gx_xml.specs.Tokens.{symbol}
use Rattle.gx_xml.proofs.Steps.{did_on}
use Rattle.gx_xml.proofs.TagLemmas.{name_alone, name_prefixed}
use Rattle.gx_xml.proofs.element.end_name.Goals as goal

pub returns-then-is_empty-clause-read : goal.returns-then-is_empty-clause-read
returns-then-is_empty-clause-read c = λ A w after h.
    name_alone (spelled c.args.name.prefix) (spelled c.args.name.local) A w c.args.reader.now after (sym c.is_empty.ensures ∙ c.if-is_empty.true)
    (did_on (symbol (spelled c.args.name.local)) _ nothing w _ _ _ c.spelling.ensures.read h)

pub returns-clause-read : goal.returns-clause-read
returns-clause-read c = λ A w after h.
    name_prefixed (spelled c.args.name.prefix) (spelled c.args.name.local) A w c.args.reader.now after (sym c.is_empty.ensures ∙ c.if-is_empty.false)
    (did_on (symbol (spelled c.args.name.prefix)) _ nothing w _ _ _ c.spelling-2.ensures.read
    (did_on (symbol (codes ":")) _ nothing w _ _ _ c.symbol.ensures.read
    (did_on (symbol (spelled c.args.name.local)) _ nothing w _ _ _ c.spelling-3.ensures.read h)))
