use Rattle.std.proofs.Common.{◌≡◌, false, [], length, take, rules, sym, ap, append-nil, Some, None}
use Rattle.gx_grammar.specs.Value.{characters}
use Rattle.gx_parse_grammar.specs.References.{text_of}
use Rattle.gx_parse_grammar.specs.Tokens.{cdata_text, scan, seen}
use Rattle.gx_parse_grammar.specs.declared.runs.Run.TheVariants as run
use Rattle.gx_parse_tokens.specs.Reading.{read_one}
use Rattle.gx_parse_tokens.proofs.MarkupScans.{no_cdata, cdata_taken}
use Rattle.gx_parse_tokens.proofs.reader.Reader.cdata.Goals as goal

pub returns-then-count-eq0 : goal.returns-then-count-eq0
unfolding read_one
returns-then-count-eq0 c =
    let x = c.self.inside.rest.now in
    let none : scan cdata_text x ≡ None = no_cdata x c.behind_cdata-behind.result.now c.saturating_sub-count.result c.behind_cdata-behind.ensures c.saturating_sub-count.ensures c.if-count-eq0.true in
    let left : length c.behind_cdata-behind.result.now ≡ seen cdata_text x = ap length c.behind_cdata-behind.ensures in
    record { others = []; is = sym (append-nil c.args.builder.now); holds = search rules }

pub returns-in-Ok : goal.returns-in-Ok
unfolding read_one
returns-in-Ok c =
    let x = c.self.inside.rest.now in
    let text = text_of run.Content false (take c.saturating_sub.result x) in
    let taken : scan cdata_text x ≡ Some (characters text, c.behind_cdata-behind.result.now) =
    cdata_taken x c.behind_cdata-behind.result.now c.saturating_sub-count.result c.saturating_sub.result c.behind_cdata-behind.ensures c.saturating_sub-count.ensures c.if-count-eq0.false c.saturating_sub.ensures in
    let left : length c.behind_cdata-behind.result.now ≡ seen cdata_text x = ap length c.behind_cdata-behind.ensures in
    record { others = text; is = c.in-Ok.ensures.text; holds = search rules }
