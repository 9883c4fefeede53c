use Rattle.std.proofs.Common.{arith}
use Rattle.gx_store.proofs.StoreLemmas.{row_of_node, row_ends, count_at}
use Rattle.gx_store.proofs.store.Store.after.Goals as goal

pub overflow_add-result : goal.overflow_add-result
overflow_add-result c =
    let r = row_of_node c.self.inside.labels.labels.keys c.self.inside.rows.items c.args.self.now c.self.invariant c.self.view_is c.args.number c.index.result.now c.requires c.index.ensures in
    let ends = row_ends c.args.self.now c.args.number c.index.result.now r in
    let count = count_at c.self.inside.labels.labels.keys c.self.inside.rows.items c.args.self.now c.self.invariant c.self.view_is in
    omega (arith, ends, count)

pub overflow_add-result-2 : goal.overflow_add-result-2
overflow_add-result-2 c =
    let r = row_of_node c.self.inside.labels.labels.keys c.self.inside.rows.items c.args.self.now c.self.invariant c.self.view_is c.args.number c.index.result.now c.requires c.index.ensures in
    let ends = row_ends c.args.self.now c.args.number c.index.result.now r in
    let count = count_at c.self.inside.labels.labels.keys c.self.inside.rows.items c.args.self.now c.self.invariant c.self.view_is in
    omega (arith, ends, count)

pub returns-clause-next : goal.returns-clause-next
returns-clause-next c =
    let r = row_of_node c.self.inside.labels.labels.keys c.self.inside.rows.items c.args.self.now c.self.invariant c.self.view_is c.args.number c.index.result.now c.requires c.index.ensures in
    omega (arith, r.below)

pub returns-clause-within : goal.returns-clause-within
returns-clause-within c =
    let r = row_of_node c.self.inside.labels.labels.keys c.self.inside.rows.items c.args.self.now c.self.invariant c.self.view_is c.args.number c.index.result.now c.requires c.index.ensures in
    omega (arith, row_ends c.args.self.now c.args.number c.index.result.now r)
