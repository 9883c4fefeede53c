use Rattle.gx_parse_types.proofs.KeysPhrases.{keys_full, keys_none}
use Rattle.gx_parse_types.proofs.keys.last_key.Goals as goal

pub returns-then-looks_at : goal.returns-then-looks_at
returns-then-looks_at c = λ text n. keys_full text n _ c.looks_at.result c.args.reader.now c.looks_at.new.self c.lexeme.new.reader c.barrier.new.self c.if-looks_at.true c.looks_at.ensures (c.lexeme.ensures text n) c.barrier.ensures.read c.barrier.ensures.ended

pub returns-else-looks_at : goal.returns-else-looks_at
returns-else-looks_at c = λ text n. keys_none text n 0 c.looks_at.result c.args.reader.now c.looks_at.new.self c.if-looks_at.false c.looks_at.ensures
