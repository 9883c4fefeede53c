use Rattle.gx_parse_grammar.specs.Nodes.{tree}
use Rattle.gx_parse_constructors.proofs.StringsPhrases.{literal_double, literal_single, literal_numeral}
use Rattle.gx_parse_constructors.proofs.strings.literal.Goals as goal

pub returns-then-starts_with : goal.returns-then-starts_with
returns-then-starts_with c = λ n.
    literal_double c.args.source.now n (tree c.string_of.result) c.starts_with.result c.args.reader.now c.starts_with.new.self c.string_of.new.reader c.if-starts_with.true c.starts_with.ensures (c.string_of.ensures n)

pub returns-then-starts_with-2 : goal.returns-then-starts_with-2
returns-then-starts_with-2 c = λ n.
    literal_single c.args.source.now n (tree c.string_of-then-starts_with-2.result) c.starts_with.result c.starts_with-2.result c.args.reader.now c.starts_with.new.self c.starts_with-2.new.self c.string_of-then-starts_with-2.new.reader c.if-starts_with.false c.starts_with.ensures c.if-starts_with-2.true c.starts_with-2.ensures (c.string_of-then-starts_with-2.ensures n)

pub returns : goal.returns
returns c = λ n.
    literal_numeral c.args.source.now n (tree c.numeral.result) c.starts_with.result c.starts_with-2.result c.args.reader.now c.starts_with.new.self c.starts_with-2.new.self c.numeral.new.reader c.if-starts_with.false c.starts_with.ensures c.if-starts_with-2.false c.starts_with-2.ensures (c.numeral.ensures n)
