use Rattle.std.proofs.Common.{ℕ, ◌∷◌, []}
use Rattle.gx_parse_grammar.specs.Grammar.{at_tokens, place_in}
use Rattle.gx_parse_prolog.specs.PrologParts.{closed_setting, setting_item}
use Rattle.gx_parse_grammar.specs.Tokens.{setter_words, import_words}
use Rattle.gx_parse_parts.proofs.Repeated.{Begun}
use Rattle.gx_parse_prolog.proofs.prolog.settings.Given as goal

abbrev pub invariant-loop-reader : goal.invariant-loop-reader
invariant-loop-reader l = (n : ℕ) → Begun l.source n (at_tokens (setter_words ∷ import_words ∷ [])) (closed_setting (place_in l.source)) setting_item [] l.list.items l.left l.fn.reader l.reader

abbrev pub decreases-loop-reader : goal.decreases-loop-reader
decreases-loop-reader l = l.left
