use Rattle.std.proofs.Common.{◌∷◌, []}
use Rattle.gx_parse_grammar.specs.Grammar.{at_tokens, place_in}
use Rattle.gx_parse_prolog.specs.PrologParts.{closed_definition, definition_item}
use Rattle.gx_parse_grammar.specs.Tokens.{definer_words}
use Rattle.gx_parse_parts.proofs.Repeated.{Begun}
use Rattle.gx_parse.proofs.definitions.definitions.Given as goal

abbrev pub invariant-loop-reader : goal.invariant-loop-reader
invariant-loop-reader l = Begun l.source 40 (at_tokens (definer_words ∷ [])) (closed_definition (place_in l.source)) definition_item [] l.list.items l.left l.fn.reader l.reader

abbrev pub decreases-loop-reader : goal.decreases-loop-reader
decreases-loop-reader l = l.left
