use Rattle.gx_parse_grammar.specs.Nodes.{tree}
use Rattle.gx_parse_types.proofs.NodeTestsPhrases.{begins_attribute, begins_wildcard, begins_literal}
use Rattle.gx_parse.proofs.paths.test_or_literal.Goals as goal

pub returns-then-starts_with : goal.returns-then-starts_with
returns-then-starts_with c = λ n.
    begins_attribute c.args.source.now n (tree c.attribute_step.result) c.starts_with.result c.args.reader.now c.starts_with.new.self c.attribute_step.new.reader c.if-starts_with.true c.starts_with.ensures (c.attribute_step.ensures n)

pub returns-then-starts_with-2 : goal.returns-then-starts_with-2
returns-then-starts_with-2 c = λ n.
    begins_wildcard c.args.source.now n (tree c.wildcard_step.result) c.starts_with.result c.starts_with-2.result c.args.reader.now c.starts_with.new.self c.starts_with-2.new.self c.wildcard_step.new.reader c.if-starts_with.false c.starts_with.ensures c.if-starts_with-2.true c.starts_with-2.ensures (c.wildcard_step.ensures n)

pub returns : goal.returns
returns c = λ n.
    begins_literal c.args.source.now n (tree c.literal.result) c.starts_with.result c.starts_with-2.result c.args.reader.now c.starts_with.new.self c.starts_with-2.new.self c.literal.new.reader c.if-starts_with.false c.starts_with.ensures c.if-starts_with-2.false c.starts_with-2.ensures (c.literal.ensures n)
