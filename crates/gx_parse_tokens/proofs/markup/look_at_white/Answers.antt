use Rattle.std.proofs.Common.{◌∙◌}
use Rattle.gx_parse_grammar.specs.Tokens.{scan, white}
use Rattle.gx_parse_tokens.proofs.MarkupScans.{white_looked}
use Rattle.gx_parse_tokens.proofs.ReferenceScans.{found_some}
use Rattle.gx_parse_tokens.proofs.markup.look_at_white.Goals as goal

pub returns : goal.returns
returns c = white_looked c.args.text.now _ (c.is_some.ensures ∙ found_some c.find_white-found.result.behind (scan white c.args.text.now) _ c.find_white-found.ensures.behind) c.find_white-found.ensures.seen
