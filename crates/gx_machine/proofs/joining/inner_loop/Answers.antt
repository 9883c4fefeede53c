use Rattle.gx_machine.proofs.joining.inner_loop.Goals as goal

pub returns : goal.returns
returns c = λ k. rw (← c.body.view_is, c.in-For.is, c.if-position-ne0.false, ← c.deref.ensures, ← c.deref-2.ensures) (c.pairs_tested.ensures k)
