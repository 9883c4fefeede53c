use Rattle.std.proofs.Common.{ap, ◌∙◌}
use Rattle.gx_parse_grammar.specs.Grammar.{place_in}
use Rattle.gx_parse_parts.proofs.Phrases.{dots_read}
use Rattle.gx_parse_parts.proofs.parts.dots.Goals as goal

pub returns : goal.returns
returns c = λ n. dots_read c.args.source.now n c.place-place.result c.lexeme-word.result c.dots.result c.args.reader.now c.lexeme-word.new.reader (c.place-place.ensures ∙ ap (place_in c.args.source.now) c.left.ensures) c.dots.ensures (c.lexeme-word.ensures c.args.source.now n)
