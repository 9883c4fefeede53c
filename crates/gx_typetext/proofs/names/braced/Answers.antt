use Rattle.gx_typetext.proofs.Phrases.{braced_read, braced_uri, braced_local}
use Rattle.gx_typetext.proofs.names.braced.Goals as goal

pub returns-in_default : goal.returns-in_default
returns-in_default c = λ call. braced_uri call c.args.reader.now c.symbol.new.self c.run.new.self c.symbol.ensures (rw c.in_default.is at c.run.ensures)

pub returns-in_default-run : goal.returns-in_default-run
returns-in_default-run c = λ call. braced_local call c.in-Some.uri c.args.reader.now c.symbol.new.self c.run.new.self c.symbol-2.new.self c.run-2.new.self c.symbol.ensures c.in-Some.ensures c.symbol-2.ensures (rw c.in_default-run.is at c.run-2.ensures)

pub returns : goal.returns
returns c = λ call. braced_read call c.in-Some.uri c.in-Some-run.local c.args.reader.now c.symbol.new.self c.run.new.self c.symbol-2.new.self c.run-2.new.self c.gap.new.self c.symbol.ensures c.in-Some.ensures c.symbol-2.ensures c.in-Some-run.ensures c.gap.ensures
