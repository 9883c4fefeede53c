use Rattle.gx_typetext.proofs.PieceSteps.{mark_stop, mark_on}
use Rattle.gx_typetext.proofs.pieces.behind_step.Goals as goal

pub returns-in_default : goal.returns-in_default
returns-in_default c = mark_stop c.args.pieces.now.items c.mark_step.new.pieces.items c.args.depth c.args.room c.args.reader.now c.mark_step.new.reader c.separator_step.new.reader c.in_ok-mark_step.ensures (rw c.in_default.is at c.separator_step.ensures)

pub returns : goal.returns
returns c = mark_on c.args.pieces.now.items c.mark_step.new.pieces.items c.push.new.self.items c.in-Some.piece c.in-Some.next c.args.depth c.args.room c.args.reader.now c.mark_step.new.reader c.separator_step.new.reader c.in_ok-mark_step.ensures c.in_ok-push.ensures.items c.in-Some.ensures
