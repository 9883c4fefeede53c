use Rattle.gx_parse_types.proofs.BoundPhrases.{an_extreme, no_extreme}
use Rattle.gx_parse_types.proofs.bound.extreme.Goals as goal

pub returns-then-not-looks_at : goal.returns-then-not-looks_at
returns-then-not-looks_at c = λ n. no_extreme c.args.source.now n c.looks_at.result c.args.reader.now c.looks_at.new.self c.if-not-looks_at.true c.looks_at.ensures

pub returns : goal.returns
returns c = λ n.
    an_extreme c.args.source.now n c.lexeme-first.result c.lexeme-second.result c.looks_at.result c.args.reader.now c.looks_at.new.self c.lexeme-first.new.reader c.lexeme-second.new.reader c.if-not-looks_at.false c.looks_at.ensures (c.lexeme-first.ensures c.args.source.now n) (c.lexeme-second.ensures c.args.source.now n)
