use Rattle.gx_typetext.proofs.Phrases.{no_comma, comma_read, comma_failed}
use Rattle.gx_typetext.proofs.names.behind_comma.Goals as goal

pub returns-then-not-starts_with : goal.returns-then-not-starts_with
returns-then-not-starts_with c = λ call. no_comma call c.starts_with.result c.args.reader.now c.starts_with.new.self c.if-not-starts_with.true c.starts_with.ensures

pub returns-in_default : goal.returns-in_default
returns-in_default c = λ call. comma_failed call c.starts_with.result c.args.reader.now c.starts_with.new.self c.lexeme.new.reader c.name.new.reader c.if-not-starts_with.false c.starts_with.ensures (c.lexeme.ensures call) (rw c.in_default.is at (c.name.ensures call))

pub returns : goal.returns
returns c = λ call. comma_read call c.in-Some.name c.starts_with.result c.args.reader.now c.starts_with.new.self c.lexeme.new.reader c.name.new.reader c.if-not-starts_with.false c.starts_with.ensures (c.lexeme.ensures call) (c.in-Some.ensures call)
