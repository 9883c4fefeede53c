use Rattle.std.proofs.Common.{ap, ◌∙◌}
use Rattle.gx_ast.specs.SyntaxTree.{at, number}
use Rattle.gx_parse_grammar.specs.Grammar.{numeral, place_in}
use Rattle.gx_parse_tokens.specs.Reading.{read_in}
use Rattle.gx_parse_parts.proofs.Chains.{ran_keeps}
use Rattle.gx_parse_parts.proofs.Phrases.{numeral_read}
use Rattle.gx_parse_parts.proofs.parts.numeral.Goals as goal

pub returns : goal.returns
returns c = λ n.
    ran_keeps c.keep.result (at c.place-place.result (number c.number-number.result)) c.number-made.result c.args.reader.now c.gap.new.self c.keep.new.reader (read_in c.args.source.now n (numeral (place_in c.args.source.now)))
    (numeral_read c.args.source.now n c.place-place.result c.number-number.result c.args.reader.now c.number-number.new.self c.number_end.new.self c.gap.new.self
    (c.place-place.ensures ∙ ap (place_in c.args.source.now) c.left.ensures) c.number-number.ensures c.number_end.ensures c.gap.ensures)
    c.number-made.ensures c.keep.ensures
