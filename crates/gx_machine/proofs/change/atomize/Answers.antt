use Rattle.std.proofs.Common.{◌≡◌, ◌++◌, Some, drop, ap, sym, subst, ◌∙◌}
use Rattle.std.specs.List.{list_any}
use Rattle.std.proofs.lemmas.Result.{err_from_is_err_and}
use Rattle.gx_model.specs.Atomization.{atomized}
use Rattle.gx_model.specs.Item.{Items}
use Rattle.gx_core.specs.Outcome.{gives, given}
use Rattle.gx_core.specs.Paths.{is_node}
use Rattle.gx_store.specs.Items.{items_in}
use Rattle.gx_machine.specs.Resume.{context_with}
use Rattle.gx_machine.proofs.NodeOperators.{atoms_stay, data_changes}
use Rattle.gx_machine.proofs.Resuming.{fails_also}
use Rattle.gx_machine.proofs.change.atomize.Goals as goal

pub returns-then-not-any_node-clause-value : goal.returns-then-not-any_node-clause-value
returns-then-not-any_node-clause-value c = λ calls later x.
    atoms_stay (context_with c.args.schemas.now calls) c.args.first (items_in later c.args.values.now.items) c.args.store.now
    (ap (list_any is_node) (sym (c.values_from-operand.ensures later)) ∙ sym (c.any_node.ensures later) ∙ c.if-not-any_node.true)

pub returns-in_err-typed-clause-failed : goal.returns-in_err-typed-clause-failed
returns-in_err-typed-clause-failed c = λ calls later x.
    let forest = c.args.store.now in
    let rest : items_in later c.values_from-operand.result.now ≡ drop c.args.first (items_in later c.args.values.now.items) = c.values_from-operand.ensures later in
    let p = err_from_is_err_and c.from_residual.result c.from_residual.ensures.1 in
    rw (p.1, p.2) (fails_also _ _ _ (ap (λ (v : Items). given (atomized c.args.schemas.now forest v) (λ typed. gives typed forest)) (sym rest)) (c.in_err-typed.ensures.failed later x))

pub returns-clause-value : goal.returns-clause-value
returns-clause-value c = λ calls later x.
    let forest = c.args.store.now in
    let first = c.args.first in
    let values : Items = items_in later c.args.values.now.items in
    let typed : Items = items_in later c.in_ok-typed.typed.items in
    let rest : items_in later c.values_from-operand.result.now ≡ drop first values = c.values_from-operand.ensures later in
    data_changes (context_with c.args.schemas.now calls) first values typed forest
    (subst (λ (v : Items). atomized c.args.schemas.now forest v ≡ Some typed) rest (c.in_ok-typed.ensures.value later x))
    ∙ ap (λ (v : Items). gives v forest) (sym (c.in_ok-move_behind.ensures later ∙ ap (λ (v : Items). v ++ typed) (c.cut_off.ensures later)))
