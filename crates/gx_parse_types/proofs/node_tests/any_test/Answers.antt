use Rattle.gx_parse_tokens.specs.Names.{name_made}
use Rattle.gx_parse_grammar.specs.Nodes.{name_at}
use Rattle.gx_parse_grammar.specs.Grammar.{place_in}
use Rattle.gx_parse_tokens.specs.Reading.{read_in}
use Rattle.gx_parse_grammar.specs.NodeTests.{any_test, in_namespace}
use Rattle.gx_parse_types.proofs.NodeTestsPhrases.{any_test_read, gave_test}
use Rattle.gx_parse_types.proofs.node_tests.any_test.Goals as goal

pub returns : goal.returns
returns c = λ n.
    gave_test c.keep.result (in_namespace (name_at c.args.place (name_made c.args.name))) c.in_namespace-made.result c.args.reader.now c.gap.new.self c.keep.new.reader (read_in c.args.source.now n (any_test (place_in c.args.source.now) (name_made c.args.name)))
    (any_test_read c.args.source.now n (name_made c.args.name) c.args.place c.args.reader.now c.gap.new.self c.requires c.gap.ensures)
    c.in_namespace-made.ensures c.keep.ensures
