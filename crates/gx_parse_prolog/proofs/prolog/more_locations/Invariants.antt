use Rattle.std.proofs.Common.{ℕ, ◌∷◌, []}
use Rattle.gx_parse_grammar.specs.declared.word.Word.TheVariants as word
use Rattle.gx_parse_grammar.specs.Grammar.{at_tokens, word_of}
use Rattle.gx_parse_prolog.specs.PrologParts.{further_location, location_item}
use Rattle.gx_parse_parts.proofs.Repeated.{Begun}
use Rattle.gx_parse_prolog.proofs.prolog.more_locations.Given as goal

abbrev pub invariant-loop-reader : goal.invariant-loop-reader
invariant-loop-reader l = (n : ℕ) → Begun l.source n (at_tokens (word_of word.Comma ∷ [])) further_location location_item l.fn.locations.items l.list.items l.left l.fn.reader l.reader

abbrev pub decreases-loop-reader : goal.decreases-loop-reader
decreases-loop-reader l = l.left
