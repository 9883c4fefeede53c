use Rattle.gx_typetext.proofs.Phrases.{prefixed_read, prefixed_local}
use Rattle.gx_typetext.proofs.names.prefixed.Goals as goal

pub returns-in_default : goal.returns-in_default
returns-in_default c = λ call. prefixed_local call c.args.reader.now c.symbol.new.self c.run.new.self c.symbol.ensures (rw c.in_default.is at c.run.ensures)

pub returns : goal.returns
returns c = λ call. prefixed_read call c.in-Some.local c.args.reader.now c.symbol.new.self c.run.new.self c.gap.new.self c.symbol.ensures c.in-Some.ensures c.gap.ensures
