use Rattle.std.proofs.Common.{◌≡◌, [], ◌∷◌, IfOk, IfErr, ap, sym, subst, ◌∙◌}
use Rattle.gx_model.specs.Item.{Items, atom, atoms}
use Rattle.gx_core.specs.Outcome.{Outcome, gives}
use Rattle.gx_core.specs.Comparing.{generally_compared}
use Rattle.gx_store.specs.Items.{items_in}
use Rattle.gx_machine.specs.Failing.{FailsSo}
use Rattle.gx_machine.proofs.Operands.{only_atom_is}
use Rattle.gx_machine.proofs.comparison.generally_compared.Goals as goal

pub returns-in-Some-Some-clause-value : goal.returns-in-Some-Some-clause-value
returns-in-Some-Some-clause-value c = λ forest later.
    let l : items_in later c.args.left.now ≡ atoms c.from_ref.result.now = only_atom_is (items_in later c.args.left.now) c.in-Some-Some.left.now (sym (c.in-Some-Some.ensures later)) ∙ ap atoms (sym c.from_ref.ensures.value) in
    let r : items_in later c.args.right.now ≡ atoms c.from_ref-in-Some-Some.result.now = only_atom_is (items_in later c.args.right.now) c.in-Some-Some.right.now (sym (c.in-Some-Some.ensures' later)) ∙ ap atoms (sym c.from_ref-in-Some-Some.ensures.value) in
    subst (λ (o : Outcome Items). IfOk c.compared_lists.result (λ r. o ≡ gives (atom r ∷ []) forest))
    (sym (ap (λ (xs : Items). generally_compared c.args.op xs (items_in later c.args.right.now) forest) l ∙ ap (λ (ys : Items). generally_compared c.args.op (atoms c.from_ref.result.now) ys forest) r))
    (c.compared_lists.ensures.value forest)

pub returns-in-Some-Some-clause-failed : goal.returns-in-Some-Some-clause-failed
returns-in-Some-Some-clause-failed c = λ forest later.
    let l : items_in later c.args.left.now ≡ atoms c.from_ref.result.now = only_atom_is (items_in later c.args.left.now) c.in-Some-Some.left.now (sym (c.in-Some-Some.ensures later)) ∙ ap atoms (sym c.from_ref.ensures.value) in
    let r : items_in later c.args.right.now ≡ atoms c.from_ref-in-Some-Some.result.now = only_atom_is (items_in later c.args.right.now) c.in-Some-Some.right.now (sym (c.in-Some-Some.ensures' later)) ∙ ap atoms (sym c.from_ref-in-Some-Some.ensures.value) in
    subst (λ (o : Outcome Items). IfErr c.compared_lists.result (λ e. FailsSo e o))
    (sym (ap (λ (xs : Items). generally_compared c.args.op xs (items_in later c.args.right.now) forest) l ∙ ap (λ (ys : Items). generally_compared c.args.op (atoms c.from_ref.result.now) ys forest) r))
    (c.compared_lists.ensures.failed forest)
