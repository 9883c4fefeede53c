use Rattle.std.proofs.Common.{◌∙◌}
use Rattle.gx_parse_grammar.specs.Tokens.{scan, text_run}
use Rattle.gx_parse_tokens.proofs.MarkupScans.{text_looked}
use Rattle.gx_parse_tokens.proofs.ReferenceScans.{found_first}
use Rattle.gx_parse_tokens.proofs.markup.look_at_text.Goals as goal

pub returns : goal.returns
returns c = text_looked c.args.run c.args.text.now _ (c.is_some.ensures ∙ found_first c.find_text-found.result.behind (scan (text_run c.args.run) c.args.text.now) _ _ c.find_text-found.ensures.behind) c.find_text-found.ensures.seen
