use Rattle.gx_typetext.proofs.Phrases.{inside_read}
use Rattle.gx_typetext.proofs.names.nothing_inside.Goals as goal

pub returns : goal.returns
returns c = λ call. inside_read call c.args.reader.now c.lexeme.new.reader c.lexeme-2.new.reader (c.lexeme.ensures call) (c.lexeme-2.ensures call)
