use Rattle.gx_typetext.proofs.Phrases.{declared_read, declared_failed}
use Rattle.gx_typetext.proofs.names.declared.Goals as goal

pub returns-in_default : goal.returns-in_default
returns-in_default c = λ call. declared_failed call c.args.reader.now c.lexeme.new.reader c.name.new.reader (c.lexeme.ensures call) (rw c.in_default.is at (c.name.ensures call))

pub returns : goal.returns
returns c = λ call. declared_read call c.in-Some.name c.args.reader.now c.lexeme.new.reader c.name.new.reader c.lexeme-2.new.reader (c.lexeme.ensures call) (c.in-Some.ensures call) (c.lexeme-2.ensures call)
