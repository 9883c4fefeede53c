use Rattle.gx_typetext.proofs.Phrases.{any_document, document_read, document_failed}
use Rattle.gx_typetext.proofs.names.document.Goals as goal

pub returns-then-starts_with : goal.returns-then-starts_with
returns-then-starts_with c = λ call. any_document call c.starts_with.result c.args.reader.now c.lexeme.new.reader c.starts_with.new.self c.lexeme-then-starts_with.new.reader (c.lexeme.ensures call) c.if-starts_with.true c.starts_with.ensures (c.lexeme-then-starts_with.ensures call)

pub returns-in_default : goal.returns-in_default
returns-in_default c = λ call. document_failed call c.starts_with.result c.args.reader.now c.lexeme.new.reader c.starts_with.new.self c.document_test.new.reader (c.lexeme.ensures call) c.if-starts_with.false c.starts_with.ensures (rw c.in_default.is at (c.document_test.ensures call))

pub returns : goal.returns
returns c = λ call. document_read call c.in-Some.test c.starts_with.result c.args.reader.now c.lexeme.new.reader c.starts_with.new.self c.document_test.new.reader c.lexeme-2.new.reader (c.lexeme.ensures call) c.if-starts_with.false c.starts_with.ensures (c.in-Some.ensures call) (c.lexeme-2.ensures call)
