use Rattle.std.proofs.Common.{ap, ◌∙◌}
use Rattle.gx_parse_grammar.specs.Grammar.{place_in}
use Rattle.gx_parse_parts.proofs.Phrases.{infix_reads}
use Rattle.gx_parse_parts.proofs.parts.infix_operator.Goals as goal

pub returns : goal.returns
returns c = λ n.
    infix_reads c.args.source.now n c.args.set c.place-place.result c.word-word.result c.is_keyword.result c.args.reader.now c.word-word.new.self c.word_end.new.self c.gap.new.self (c.place-place.ensures ∙ ap (place_in c.args.source.now) c.left.ensures)
    c.is_keyword.ensures c.word-word.ensures c.word_end.ensures c.gap.ensures
