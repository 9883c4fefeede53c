use Rattle.gx_typetext.proofs.Phrases.{unprefixed_read, unprefixed_local}
use Rattle.gx_typetext.proofs.names.unprefixed.Goals as goal

pub returns-in_default : goal.returns-in_default
returns-in_default c = λ call. unprefixed_local call c.args.reader.now c.run.new.self (rw c.in_default.is at c.run.ensures)

pub returns : goal.returns
returns c = λ call. unprefixed_read call c.in-Some.local c.args.reader.now c.run.new.self c.gap.new.self c.in-Some.ensures c.gap.ensures
