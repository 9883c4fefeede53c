use Rattle.std.proofs.Common.{◌∙◌}
use Rattle.gx_parse_grammar.specs.Tokens.{scan}
use Rattle.gx_parse_grammar.specs.Basics.{word_of}
use Rattle.gx_parse_tokens.proofs.MarkupScans.{word_looked}
use Rattle.gx_parse_tokens.proofs.ReferenceScans.{found_some}
use Rattle.gx_parse_tokens.proofs.markup.look_at_word.Goals as goal

pub returns : goal.returns
returns c = word_looked c.args.word c.args.text.now _ (c.is_some.ensures ∙ found_some c.find_only-found.result.word (scan (word_of c.args.word) c.args.text.now) _ c.find_only-found.ensures.word) c.find_only-found.ensures.seen
