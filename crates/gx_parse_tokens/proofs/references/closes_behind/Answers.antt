use Rattle.std.proofs.Common.{sym, ◌∙◌}
use Rattle.gx_parse_grammar.specs.References.{scan_semicolon}
use Rattle.gx_parse_tokens.proofs.ReferenceScans.{closes_none, closes_some, found_some}
use Rattle.gx_parse_tokens.proofs.references.closes_behind.Goals as goal

pub returns-then-behind-text : goal.returns-then-behind-text
returns-then-behind-text c = sym (closes_none c.args.radix c.args.text.now c.behind_figures-behind.result.now c.behind_figures-behind.ensures c.if-behind-text.true)

pub returns : goal.returns
returns c =
    c.is_some.ensures ∙ found_some c.behind_semicolon.result (scan_semicolon c.behind_figures-behind.result.now) _ c.behind_semicolon.ensures.found
    ∙ sym (closes_some c.args.radix c.args.text.now c.behind_figures-behind.result.now c.behind_figures-behind.ensures c.if-behind-text.false)
