use Rattle.gx_grammar.specs.Value.{nothing}
use Rattle.gx_parse_grammar.specs.Grammar.{place_in}
use Rattle.gx_parse_tokens.specs.Reading.{read_in}
use Rattle.gx_parse_grammar.specs.Types.{content_made}
use Rattle.gx_parse_grammar.specs.NodeTests.{maybe_content, kind_content}
use Rattle.gx_parse_types.proofs.NodeTestsPhrases.{no_kind, no_content, content_read}
use Rattle.gx_parse_types.proofs.node_tests.kind_content.Goals as goal
use Rattle.gx_parse_parts.proofs.Phrases.{gave_none}

pub returns-in_default : goal.returns-in_default
returns-in_default c = λ n. no_kind c.args.source.now n c.args.kind c.args.reader.now c.in_default.is

pub returns-then-not-starts_with : goal.returns-then-not-starts_with
returns-then-not-starts_with c = λ n. no_content c.args.source.now n c.args.kind c.in-Some.kind c.starts_with.result c.args.reader.now c.starts_with.new.self c.in-Some.is c.if-not-starts_with.true c.starts_with.ensures

pub returns-in_default-content : goal.returns-in_default-content
returns-in_default-content c = λ n.
    let done = rw c.in_default-content.is at (c.content.ensures n) in
    gave_none maybe_content nothing c.args.reader.now c.content.new.reader (read_in c.args.source.now n (kind_content (place_in c.args.source.now) c.args.kind)) done.0
    (content_read c.args.source.now n c.args.kind c.in-Some.kind nothing c.starts_with.result c.args.reader.now c.starts_with.new.self c.content.new.reader c.in-Some.is c.if-not-starts_with.false c.starts_with.ensures (done.1 nothing))

pub returns : goal.returns
returns c = λ n.
    content_read c.args.source.now n c.args.kind c.in-Some.kind (content_made c.in-Some-content.content) c.starts_with.result c.args.reader.now c.starts_with.new.self c.content.new.reader c.in-Some.is c.if-not-starts_with.false c.starts_with.ensures (c.in-Some-content.ensures n)
