use Rattle.gx_typetext.proofs.Phrases.{name_braced, name_prefixed, name_unprefixed}
use Rattle.gx_typetext.proofs.names.name.Goals as goal

pub returns-then-starts_with : goal.returns-then-starts_with
returns-then-starts_with c = λ call. name_braced call c.braced.result c.starts_with.result c.args.reader.now c.starts_with.new.self c.braced.new.reader c.if-starts_with.true c.starts_with.ensures (c.braced.ensures call)

pub returns-then-looks_at : goal.returns-then-looks_at
returns-then-looks_at c = λ call. name_prefixed call c.prefixed.result c.starts_with.result c.looks_at.result c.args.reader.now c.starts_with.new.self c.looks_at.new.self c.prefixed.new.reader c.if-starts_with.false c.starts_with.ensures c.if-looks_at.true c.looks_at.ensures (c.prefixed.ensures call)

pub returns : goal.returns
returns c = λ call. name_unprefixed call c.unprefixed.result c.starts_with.result c.looks_at.result c.args.reader.now c.starts_with.new.self c.looks_at.new.self c.unprefixed.new.reader c.if-starts_with.false c.starts_with.ensures c.if-looks_at.false c.looks_at.ensures (c.unprefixed.ensures call)
