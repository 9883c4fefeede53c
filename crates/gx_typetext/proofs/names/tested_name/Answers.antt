use Rattle.gx_typetext.proofs.Phrases.{star_read, some_read, some_failed}
use Rattle.gx_typetext.proofs.names.tested_name.Goals as goal

pub returns-then-starts_with : goal.returns-then-starts_with
returns-then-starts_with c = λ call. star_read call c.starts_with.result c.args.reader.now c.starts_with.new.self c.lexeme.new.reader c.if-starts_with.true c.starts_with.ensures (c.lexeme.ensures call)

pub returns-in_default : goal.returns-in_default
returns-in_default c = λ call. some_failed call c.starts_with.result c.args.reader.now c.starts_with.new.self c.name.new.reader c.if-starts_with.false c.starts_with.ensures (rw c.in_default.is at (c.name.ensures call))

pub returns : goal.returns
returns c = λ call. some_read call c.in-Some.name c.starts_with.result c.args.reader.now c.starts_with.new.self c.name.new.reader c.if-starts_with.false c.starts_with.ensures (c.in-Some.ensures call)
