use Rattle.std.proofs.Common.{sym, subst}
use Rattle.gx_typetext.specs.Grammar.{operand}
use Rattle.gx_typetext.specs.Steps.{production_of}
use Rattle.gx_typetext.specs.Pieces.{Started}
use Rattle.gx_typetext.proofs.PieceSteps.{started, goes_on, stops, ends}
use Rattle.gx_typetext.proofs.pieces.all_pieces.Goals as goal

pub loop-init : goal.loop-init
loop-init c = subst (λ xs. Started xs (operand 0 1024) c.args.reader.now c.args.reader.now) (sym c.new-pieces.ensures.items) (started c.args.reader.now)

pub returns-in_default : goal.returns-in_default
returns-in_default c = stops c.loop.pieces.items c.step.new.pieces.items (production_of c.loop.stage) c.args.reader.now c.loop.reader c.step.new.reader c.loop.invariant (rw c.in_default.is at c.in_ok-next.ensures)

pub returns-then-has_ended : goal.returns-then-has_ended
returns-then-has_ended c =
    ends c.step.new.pieces.items (production_of c.in-Some.next) c.args.reader.now c.step.new.reader (c.has_ended.ensures.0 c.if-has_ended.true)
    (goes_on c.loop.pieces.items c.step.new.pieces.items (production_of c.loop.stage) c.in-Some.next c.args.reader.now c.loop.reader c.step.new.reader c.loop.invariant (rw c.in-Some.is at c.in_ok-next.ensures))

pub loop-preserved : goal.loop-preserved
loop-preserved c = goes_on c.loop.pieces.items c.step.new.pieces.items (production_of c.loop.stage) c.in-Some.next c.args.reader.now c.loop.reader c.step.new.reader c.loop.invariant (rw c.in-Some.is at c.in_ok-next.ensures)
