use Rattle.gx_parse_types.proofs.NodeTestsPhrases.{axis_read}
use Rattle.gx_parse_types.proofs.node_tests.axis_test.Goals as goal

pub returns : goal.returns
returns c = λ n. axis_read c.args.source.now n _ c.node_test.result c.args.reader.now c.lexeme.new.reader c.node_test.new.reader (c.lexeme.ensures c.args.source.now n) (c.node_test.ensures n)
