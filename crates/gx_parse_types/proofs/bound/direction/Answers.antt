use Rattle.gx_parse_types.proofs.BoundPhrases.{a_direction, no_direction}
use Rattle.gx_parse_types.proofs.bound.direction.Goals as goal

pub returns-then-not-looks_at : goal.returns-then-not-looks_at
returns-then-not-looks_at c = λ n. no_direction c.args.source.now n c.looks_at.result c.args.reader.now c.looks_at.new.self c.if-not-looks_at.true c.looks_at.ensures

pub returns : goal.returns
returns c = λ n. a_direction c.args.source.now n c.lexeme.result c.looks_at.result c.args.reader.now c.looks_at.new.self c.lexeme.new.reader c.if-not-looks_at.false c.looks_at.ensures (c.lexeme.ensures c.args.source.now n)
