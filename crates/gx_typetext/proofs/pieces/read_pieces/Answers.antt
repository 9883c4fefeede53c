use Rattle.std.proofs.Common.{None}
use Rattle.gx_typetext.proofs.Verdicts.{told, refused}
use Rattle.gx_typetext.proofs.pieces.read_pieces.Goals as goal

pub returns-in-None : goal.returns-in-None
returns-in-None c = told c.args.text.now c.in-Some.pieces.items c.new-reader.result c.gap.new.self c.all_pieces.new.reader None c.new-reader.ensures c.gap.ensures (rw c.in-Some.is at c.in-Ok.ensures) c.in-None.ensures

pub returns-in-Some-outcome : goal.returns-in-Some-outcome
returns-in-Some-outcome c = refused c.args.text.now c.in-Some.pieces.items c.new-reader.result c.gap.new.self c.all_pieces.new.reader c.in-Some-outcome.end c.error_of.result c.new-reader.ensures c.gap.ensures (rw c.in-Some.is at c.in-Ok.ensures) c.in-Some-outcome.ensures c.error_of.ensures
