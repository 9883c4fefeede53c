use Rattle.std.proofs.lemmas.Result.{err_from_is_err_and}
use Rattle.gx_store.specs.Items.{items_in}
use Rattle.gx_machine.specs.Resume.{context_with, items_of, stacks_of}
use Rattle.gx_machine.proofs.Resuming.{change_applies, change_fails}
use Rattle.gx_machine.proofs.evaluation.Evaluation.apply_change.Goals as goal

pub returns-in_err-change_values-clause-failed : goal.returns-in_err-change_values-clause-failed
returns-in_err-change_values-clause-failed c = λ calls later x.
    let p = err_from_is_err_and c.from_residual.result c.from_residual.ensures.1 in
    rw (p.1, p.2)
    (change_fails (context_with c.args.schemas.now calls) c.args.store.now c.args.operator c.args.self.now.work (items_in later c.args.self.now.values.items) c.args.first (stacks_of later c.args.self.now) (items_of later c.args.self.now.scope) _
    (c.in_err-change_values.ensures.failed calls later x))

pub returns-clause-value : goal.returns-clause-value
returns-clause-value c = λ calls later x.
    change_applies (context_with c.args.schemas.now calls) c.args.store.now c.args.operator c.args.self.now.work (items_in later c.args.self.now.values.items) (items_in later c.change_values.new.values.items) c.args.first
    (stacks_of later c.args.self.now) (items_of later c.args.self.now.scope) (c.in_ok-change_values.ensures.value calls later x)
