use Rattle.gx_machine.proofs.hand.at_hand.Goals as goal

pub returns-in-DataOf : goal.returns-in-DataOf
returns-in-DataOf c = λ calls later x. rw (← c.expression.view_is, c.in-DataOf.is, ← c.deref.ensures) (c.atoms_at_hand.ensures calls later x)
