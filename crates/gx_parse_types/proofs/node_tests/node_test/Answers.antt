use Rattle.gx_grammar.specs.Value.{nothing}
use Rattle.gx_parse_tokens.specs.Names.{name_made}
use Rattle.gx_parse_grammar.specs.Grammar.{place_in}
use Rattle.gx_parse_grammar.specs.NodeTests.{any_test, behind_test}
use Rattle.gx_parse_types.proofs.TypesPhrases.{idle}
use Rattle.gx_parse_types.proofs.NodeTestsPhrases.{behind_test_name, node_wildcard, node_named, node_done, wildcard_gave, other_gave}
use Rattle.gx_parse_types.proofs.node_tests.node_test.Goals as goal

pub returns-then-not-starts_name : goal.returns-then-not-starts_name
returns-then-not-starts_name c = λ n. node_wildcard c.args.source.now n c.wildcard.result c.starts_name.result c.args.reader.now c.starts_name.new.self c.wildcard.new.reader c.if-not-starts_name.true c.starts_name.ensures (c.wildcard.ensures n)

pub returns-in_default : goal.returns-in_default
returns-in_default c = λ n.
    let done = rw c.in_default.is at c.name.ensures.read in
    node_done c.args.source.now n c.starts_name.result c.args.reader.now c.starts_name.new.self c.name.new.self c.if-not-starts_name.false c.starts_name.ensures done.0 (done.1 nothing) (idle c.args.source.now n (behind_test_name c.args.source.now n nothing) nothing c.name.new.self done.0)

pub returns-then-local_wildcard : goal.returns-then-local_wildcard
returns-then-local_wildcard c = λ n.
    let v = name_made c.in-Some.name in
    node_named c.args.source.now n v c.any_test.result c.starts_name.result c.args.reader.now c.starts_name.new.self c.name.new.self c.any_test.new.reader c.if-not-starts_name.false c.starts_name.ensures c.in-Some.ensures.read
    (wildcard_gave c.args.source.now n c.local_wildcard.result c.has_prefix.result v c.any_test.result (any_test (place_in c.args.source.now) v) (behind_test (place_in c.args.source.now) v) c.name.new.self c.local_wildcard.new.self c.any_test.new.reader
    c.if-local_wildcard.true c.has_prefix.ensures c.local_wildcard.ensures.read (c.any_test.ensures n))

pub returns : goal.returns
returns c = λ n.
    let v = name_made c.in-Some.name in
    node_named c.args.source.now n v c.behind_test.result c.starts_name.result c.args.reader.now c.starts_name.new.self c.name.new.self c.behind_test.new.reader c.if-not-starts_name.false c.starts_name.ensures c.in-Some.ensures.read
    (other_gave c.args.source.now n c.local_wildcard.result c.has_prefix.result v c.behind_test.result (any_test (place_in c.args.source.now) v) (behind_test (place_in c.args.source.now) v) c.name.new.self c.local_wildcard.new.self c.behind_test.new.reader
    c.if-local_wildcard.false c.has_prefix.ensures c.local_wildcard.ensures.read (c.behind_test.ensures n))
