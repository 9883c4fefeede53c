use Rattle.std.proofs.Common.{arith}
use Rattle.gx_store.proofs.StoreLemmas.{parent_past, parent_of_root, parent_above, up_within}
use Rattle.gx_store.proofs.store.Store.parent.Goals as goal

pub returns-in_default-clause-parent : goal.returns-in_default-clause-parent
returns-in_default-clause-parent c later x = parent_past c.args.self.now later c.args.node.number c.in_default.ensures x

pub returns-then-up-eq0-clause-parent : goal.returns-then-up-eq0-clause-parent
returns-then-up-eq0-clause-parent c later x = parent_of_root c.args.self.now later c.args.node.number c.in-Some.row.now c.in-Some.ensures c.if-up-eq0.true x

pub overflow_sub-result : goal.overflow_sub-result
overflow_sub-result c = up_within c.args.self.now c.args.node.number c.in-Some.row.now c.in-Some.ensures (omega (arith, c.if-up-eq0.false))

pub returns-clause-parent : goal.returns-clause-parent
returns-clause-parent c later x = parent_above c.args.self.now later c.args.node.number c.in-Some.row.now c.in-Some.ensures (omega (arith, c.if-up-eq0.false)) x

pub returns-clause-before : goal.returns-clause-before
returns-clause-before c =
    let within = up_within c.args.self.now c.args.node.number c.in-Some.row.now c.in-Some.ensures (omega (arith, c.if-up-eq0.false)) in
    omega (arith, within, c.if-up-eq0.false)
