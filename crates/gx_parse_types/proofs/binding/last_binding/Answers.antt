use Rattle.gx_parse_types.proofs.BindingPhrases.{bindings_full, bindings_none}
use Rattle.gx_parse_types.proofs.binding.last_binding.Goals as goal

pub returns-then-looks_at : goal.returns-then-looks_at
returns-then-looks_at c = λ text n b. bindings_full text n b _ c.looks_at.result c.args.reader.now c.looks_at.new.self c.lexeme.new.reader c.barred.new.self c.if-looks_at.true c.looks_at.ensures (c.lexeme.ensures text n) c.barred.ensures.read c.barred.ensures.ended

pub returns-else-looks_at : goal.returns-else-looks_at
returns-else-looks_at c = λ text n b. bindings_none text n b 0 c.looks_at.result c.args.reader.now c.looks_at.new.self c.if-looks_at.false c.looks_at.ensures
