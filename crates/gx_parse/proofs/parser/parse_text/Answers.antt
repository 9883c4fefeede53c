use Rattle.std.proofs.Common.{sym, ap, subst, ◌∙◌, Some, None}
use Rattle.gx_parse_grammar.specs.Query.{RefusesText}
use Rattle.gx_parse.specs.Outcome.{syntax_refusal_at}
use Rattle.gx_parse.proofs.Ended.{text_read}
use Rattle.gx_parse.proofs.parser.parse_text.Goals as goal

pub returns-in-None-clause-tree : goal.returns-in-None-clause-tree
returns-in-None-clause-tree c =
    let run = rw (c.new-reader.ensures, c.in_ok-source.ensures) at c.query-tree.ensures in
    text_read c.args.text.now c.query-tree.result c.query-tree.new.reader None run c.in-None.ensures

pub returns-clause-refused : goal.returns-clause-refused
returns-clause-refused c =
    let run = rw (c.new-reader.ensures, c.in_ok-source.ensures) at c.query-tree.ensures in
    subst (λ e. RefusesText e c.args.text.now) (sym (c.refusal.ensures ∙ ap (λ x. syntax_refusal_at x c.in-Some.end) c.in_ok-source.ensures))
    (text_read c.args.text.now c.query-tree.result c.query-tree.new.reader (Some c.in-Some.end) run c.in-Some.ensures)
