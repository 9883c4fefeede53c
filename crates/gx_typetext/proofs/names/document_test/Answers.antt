use Rattle.gx_typetext.proofs.Phrases.{element_read, element_failed, schema_read, schema_failed}
use Rattle.gx_typetext.proofs.names.document_test.Goals as goal

pub returns-in_default : goal.returns-in_default
returns-in_default c = λ call. element_failed call c.starts_with.result c.args.reader.now c.starts_with.new.self c.word.new.reader c.tested.new.reader c.if-starts_with.true c.starts_with.ensures (c.word.ensures call) (rw c.in_default.is at (c.tested.ensures call))

pub returns-then-starts_with : goal.returns-then-starts_with
returns-then-starts_with c = λ call. element_read call c.in-Some.test c.starts_with.result c.args.reader.now c.starts_with.new.self c.word.new.reader c.tested.new.reader c.if-starts_with.true c.starts_with.ensures (c.word.ensures call) (c.in-Some.ensures call)

pub returns-in_default-declared : goal.returns-in_default-declared
returns-in_default-declared c = λ call. schema_failed call c.starts_with.result c.args.reader.now c.starts_with.new.self c.word-2.new.reader c.declared.new.reader c.if-starts_with.false c.starts_with.ensures (c.word-2.ensures call) (rw c.in_default-declared.is at (c.declared.ensures call))

pub returns : goal.returns
returns c = λ call. schema_read call c.in-Some-declared.name c.starts_with.result c.args.reader.now c.starts_with.new.self c.word-2.new.reader c.declared.new.reader c.if-starts_with.false c.starts_with.ensures (c.word-2.ensures call) (c.in-Some-declared.ensures call)
