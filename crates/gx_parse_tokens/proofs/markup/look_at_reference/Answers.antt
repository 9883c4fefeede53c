use Rattle.std.proofs.Common.{refl, ◌∙◌}
use Rattle.gx_parse_grammar.specs.Tokens.{scan, reference}
use Rattle.gx_parse_tokens.proofs.MarkupScans.{reference_looked}
use Rattle.gx_parse_tokens.proofs.ReferenceScans.{found_some}
use Rattle.gx_parse_tokens.proofs.markup.look_at_reference.Goals as goal

pub returns : goal.returns
returns c =
    reference_looked c.args.text.now c.is_some.result c.find_reference-found.result.is_bad _ (c.is_some.ensures ∙ found_some c.find_reference-found.result.character (scan reference c.args.text.now) _ c.find_reference-found.ensures.character)
    c.find_reference-found.ensures.bad refl c.find_reference-found.ensures.seen
