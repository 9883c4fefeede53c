use Rattle.std.proofs.Common.{arith, sym, ◌∙◌}
use Rattle.gx_store.specs.Left.{left_out}
use Rattle.gx_store.proofs.StoreLemmas.{left_more, fewer_left}
use Rattle.gx_store.proofs.children.NodesBelowIterator.next.Goals as goal

pub returns-clause-steps : goal.returns-clause-steps
returns-clause-steps c = sym c.self.view_is ∙ left_more (left_out c.self.inside.group c.self.inside.store.now) c.self.inside.next c.behind-self-inside.result c.self.inside.end (omega arith) c.behind-self-inside.ensures

pub returns-clause-goes : goal.returns-clause-goes
returns-clause-goes c =
    let fewer = fewer_left c.args.self.now _ _ (sym c.self.view_is ∙ left_more (left_out c.self.inside.group c.self.inside.store.now) c.self.inside.next c.behind-self-inside.result c.self.inside.end (omega arith) c.behind-self-inside.ensures) in
    record { on = λ finite. (tt, tt, fewer); keeps = tt; rests = λ finite. tt }
