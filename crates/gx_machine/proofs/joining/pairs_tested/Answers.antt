use Rattle.gx_machine.proofs.joining.pairs_tested.Goals as goal

pub returns : goal.returns
returns c = λ k.
    rw (← c.test.view_is, c.in-If.is, ← c.deref.ensures, ← c.behind-absent.view_is, c.in-Empty.is, ← c.deref-2.ensures, ← c.deref-3.ensures) (c.keys_compared.ensures k)
