use Rattle.std.proofs.Common.{ℕ, ◌∷◌, []}
use Rattle.gx_parse_grammar.specs.declared.word.Word.TheVariants as word
use Rattle.gx_parse_grammar.specs.Grammar.{at_tokens, place_in, word_of}
use Rattle.gx_parse_prolog.specs.PrologParts.{further_parameter, parameter_item}
use Rattle.gx_parse_parts.proofs.Repeated.{Begun}
use Rattle.gx_parse_prolog.proofs.prolog.more_parameters.Given as goal

abbrev pub invariant-loop-reader : goal.invariant-loop-reader
invariant-loop-reader l = (n : ℕ) → Begun l.source n (at_tokens (word_of word.Comma ∷ [])) (further_parameter (place_in l.source)) parameter_item l.fn.parameters.items l.list.items l.left l.fn.reader l.reader

abbrev pub decreases-loop-reader : goal.decreases-loop-reader
decreases-loop-reader l = l.left
