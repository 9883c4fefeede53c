use Rattle.std.proofs.Common.{◌≡◌}
use Rattle.gx_machine.proofs.JoinResuming.{no_position, unmarked, marked}
use Rattle.gx_machine.proofs.joining.join_of.Goals as goal

pub returns-then-position-ne0 : goal.returns-then-position-ne0
returns-then-position-ne0 c = λ k. no_position k c.args.role c.args.binder.now c.args.position c.args.source.now c.args.body.now c.if-position-ne0.true

pub returns-in-Join : goal.returns-in-Join
returns-in-Join c = λ k. rw c.in-Join.is (marked k c.args.binder.now c.args.position c.args.source.now c.args.body.now c.inner_loop.result c.if-position-ne0.false (c.inner_loop.ensures k))
