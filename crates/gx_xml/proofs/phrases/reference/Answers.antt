use Rattle.std.proofs.Common.{codes, inl, inr, subst}
use Rattle.gx_grammar.specs.Value.{nothing, characters}
use Rattle.gx_grammar.specs.Ran.{Ran}
use Rattle.gx_xml.specs.Characters.{spelled}
use Rattle.gx_xml.specs.declared.marks.Choice.TheVariants.{Reference}
use Rattle.gx_xml.specs.declared.marks.Mark.TheVariants.{Numeral}
use Rattle.gx_xml.specs.Nodes.{mark_value}
use Rattle.gx_xml.specs.Tokens.{choice, numeral, symbol}
use Rattle.gx_xml.specs.Grammar.{character_reference, character_read}
use Rattle.gx_xml.specs.Standings.{Did, read_document_token}
use Rattle.gx_xml.proofs.PhraseLemmas.{none_there, read_character}
use Rattle.gx_xml.proofs.Steps.{did_on, did_other, done_stays}
use Rattle.gx_xml.proofs.phrases.reference.Goals as goal

pub returns-in-Numeral-clause-read : goal.returns-in-Numeral-clause-read
unfolding character_reference character_read
returns-in-Numeral-clause-read c = λ k w after h.
    did_on _ _ (mark_value (Numeral c.in-Numeral.base)) w c.args.reader.now c.choice-mark.new.self after
    (subst (λ n. Ran (mark_value (Numeral c.in-Numeral.base)) c.args.reader.now c.choice-mark.new.self (read_document_token (choice (Reference n)))) (none_there c.args.expected c.is_none-named.result c.is_none-named.ensures) c.in-Numeral.ensures.read)
    (did_on (numeral c.in-Numeral.base c.args.expected) _ (characters (spelled c.numeral-character.result.0)) w _ _ _ c.numeral-character.ensures.read
    (did_on (symbol (codes ";")) _ nothing w _ _ _ c.symbol.ensures.read
    (elim c.numeral-character.ensures.number [
      | inl d ↦ did_other (k c.numeral-character.result.1) _ w _ _ (done_stays nothing _ _ _ d c.symbol.ensures.read) h
      | inr e ↦ subst (λ n. Did w c.symbol.new.self after (k n)) e h
    ])))

pub returns-clause-read : goal.returns-clause-read
unfolding character_reference
returns-clause-read c = λ k w after h.
    did_on _ _ (mark_value c.choice-mark.result) w c.args.reader.now c.choice-mark.new.self after
    (subst (λ n. Ran (mark_value c.choice-mark.result) c.args.reader.now c.choice-mark.new.self (read_document_token (choice (Reference n)))) (none_there c.args.expected c.is_none-named.result c.is_none-named.ensures) c.choice-mark.ensures.read)
    (read_character c.args.expected c.choice-mark.result k w c.choice-mark.new.self after c.in_default.not-Numeral
    (subst (λ n. Did w c.choice-mark.new.self after (k n)) c.character_of.ensures h))
