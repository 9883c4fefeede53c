use Rattle.gx_parse_grammar.specs.Types.{content_made, tail_made}
use Rattle.gx_parse_types.proofs.TypesPhrases.{empty_bare, empty_inside}
use Rattle.gx_parse_types.proofs.types.empty_tail.Goals as goal

pub returns-then-not-looks_at : goal.returns-then-not-looks_at
returns-then-not-looks_at c = λ n. empty_bare c.args.source.now n (tail_made c.bare_tail.result) c.looks_at.result c.args.reader.now c.looks_at.new.self c.bare_tail.new.reader c.if-not-looks_at.true c.looks_at.ensures (c.bare_tail.ensures n)

pub returns : goal.returns
returns c = λ n. empty_inside c.args.source.now n (content_made c.nothing_inside-content.result) c.looks_at.result c.args.reader.now c.looks_at.new.self c.nothing_inside-content.new.reader c.if-not-looks_at.false c.looks_at.ensures (c.nothing_inside-content.ensures n)
