use Rattle.std.proofs.Common.{subst}
use Rattle.gx_grammar.specs.Value.{nothing}
use Rattle.gx_parse_tokens.specs.Names.{name_made}
use Rattle.gx_parse_grammar.specs.Nodes.{name_at}
use Rattle.gx_parse_grammar.specs.Grammar.{place_in}
use Rattle.gx_parse_tokens.specs.Reading.{read_in}
use Rattle.gx_grammar.specs.Ran.{Ran}
use Rattle.gx_parse_grammar.specs.NodeTests.{behind_test, maybe_content, test_made, test_of}
use Rattle.gx_parse_types.proofs.NodeTestsPhrases.{gave_test, test_read, test_value_is}
use Rattle.gx_parse_types.proofs.node_tests.behind_test.Goals as goal
use Rattle.gx_parse_parts.proofs.Phrases.{gave_none}

pub returns-in_default : goal.returns-in_default
returns-in_default c = λ n.
    let done = rw c.in_default.is at (c.kind_content.ensures n) in
    gave_none test_made _ c.args.reader.now c.kind_content.new.reader (read_in c.args.source.now n (behind_test (place_in c.args.source.now) (name_made c.args.name))) done.0
    (test_read c.args.source.now n (name_made c.args.name) nothing c.kind_word-kind.result c.args.place c.args.reader.now c.gap.new.self c.kind_content.new.reader c.kind_word-kind.ensures c.requires c.gap.ensures (done.1 nothing))

pub returns : goal.returns
returns c = λ n.
    gave_test c.keep.result (test_of c.kind_word-kind.result (name_at c.args.place (name_made c.args.name)) c.in-Some.content) c.test_at-made.result c.args.reader.now c.kind_content.new.reader c.keep.new.reader (read_in c.args.source.now n (behind_test (place_in c.args.source.now) (name_made c.args.name)))
    (subst (λ v. Ran v c.args.reader.now c.kind_content.new.reader (read_in c.args.source.now n (behind_test (place_in c.args.source.now) (name_made c.args.name)))) (test_value_is c.args.source.now n c.kind_word-kind.result (name_at c.args.place (name_made c.args.name)) c.in-Some.content)
    (test_read c.args.source.now n (name_made c.args.name) (maybe_content c.in-Some.content) c.kind_word-kind.result c.args.place c.args.reader.now c.gap.new.self c.kind_content.new.reader c.kind_word-kind.ensures c.requires c.gap.ensures (c.in-Some.ensures n)))
    c.test_at-made.ensures c.keep.ensures
