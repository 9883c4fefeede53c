use Rattle.std.proofs.Common.{◌∙◌}
use Rattle.gx_parse_grammar.specs.declared.runs.Run.TheVariants as run
use Rattle.gx_parse_grammar.specs.Tokens.{scan, text_run, reference}
use Rattle.gx_parse_grammar.specs.Grammar.{word_of}
use Rattle.gx_parse_tokens.proofs.ReferenceScans.{part_stands, part_seen, word_found}
use Rattle.gx_parse_tokens.proofs.ReferenceScans.{found_some, found_first}
use Rattle.gx_parse_tokens.proofs.references.find_part.Goals as goal

pub returns-clause-stands : goal.returns-clause-stands
returns-clause-stands c =
    let x = c.args.text.now in
    part_stands c.args.quote x c.is_some.result c.is_some-2.result c.is_some-3.result c.find_reference-reference.result.is_bad
    (c.is_some.ensures ∙ found_first c.find_text-literal.result.behind (scan (text_run (run.String c.args.quote)) x) _ _ c.find_text-literal.ensures.behind)
    (c.is_some-2.ensures ∙ word_found c.args.quote c.doubled.result x (found_some c.find_only-doubled.result.word (scan (word_of c.doubled.result) x) _ c.find_only-doubled.ensures.word) c.doubled.ensures)
    (c.is_some-3.ensures ∙ found_some c.find_reference-reference.result.character (scan reference x) _ c.find_reference-reference.ensures.character) c.find_reference-reference.ensures.bad

pub returns-clause-seen : goal.returns-clause-seen
returns-clause-seen c =
    part_seen c.args.quote c.args.text.now c.doubled.result c.min-seen.result c.min.result c.find_text-literal.result.seen c.find_only-doubled.result.seen c.find_reference-reference.result.seen
    c.min-seen.ensures c.min.ensures c.find_text-literal.ensures.seen c.find_only-doubled.ensures.seen c.doubled.ensures c.find_reference-reference.ensures.seen
