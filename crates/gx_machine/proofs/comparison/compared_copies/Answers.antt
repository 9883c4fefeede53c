use Rattle.std.proofs.Common.{◌≡◌, [], ◌∷◌, IfOk, IfErr, None, Some, arith, List, ap, sym, subst, ◌∙◌}
use Rattle.std.proofs.lemmas.List.{length-map}
use Rattle.gx_facets.specs.declared.Atomic.{Atomic}
use Rattle.gx_model.specs.Item.{Items, atom}
use Rattle.gx_core.specs.Outcome.{Outcome, gives}
use Rattle.gx_core.specs.Comparing.{atoms_among}
use Rattle.gx_store.specs.Items.{item_in, items_in}
use Rattle.gx_machine.specs.Failing.{FailsSo}
use Rattle.gx_machine.proofs.Operands.{general_of_atoms, no_left_atoms, no_right_atoms}
use Rattle.gx_machine.proofs.comparison.compared_copies.Goals as goal

pub returns-clause-value : goal.returns-clause-value
returns-clause-value c = λ forest later.
    let l : atoms_among (items_in later c.args.left.now) ≡ Some c.in-Some.left_values.items = rw c.in-Some.is at (c.in_ok-left_values.ensures later) in
    let r : atoms_among (items_in later c.args.right.now) ≡ Some c.in-Some-2.right_values.items = rw c.in-Some-2.is at (c.in_ok-right_values.ensures later) in
    subst (λ (o : Outcome Items). IfOk c.compared_lists.result (λ r. o ≡ gives (atom r ∷ []) forest))
    (sym (general_of_atoms c.args.op (items_in later c.args.left.now) (items_in later c.args.right.now) c.as_slice.result.now c.as_slice-2.result.now forest
    (l ∙ ap (λ (v : List Atomic). Some v) (sym c.as_slice.ensures.value)) (r ∙ ap (λ (v : List Atomic). Some v) (sym c.as_slice-2.ensures.value))))
    (c.compared_lists.ensures.value forest)

pub returns-clause-failed : goal.returns-clause-failed
returns-clause-failed c = λ forest later.
    let l : atoms_among (items_in later c.args.left.now) ≡ Some c.in-Some.left_values.items = rw c.in-Some.is at (c.in_ok-left_values.ensures later) in
    let r : atoms_among (items_in later c.args.right.now) ≡ Some c.in-Some-2.right_values.items = rw c.in-Some-2.is at (c.in_ok-right_values.ensures later) in
    subst (λ (o : Outcome Items). IfErr c.compared_lists.result (λ e. FailsSo e o))
    (sym (general_of_atoms c.args.op (items_in later c.args.left.now) (items_in later c.args.right.now) c.as_slice.result.now c.as_slice-2.result.now forest
    (l ∙ ap (λ (v : List Atomic). Some v) (sym c.as_slice.ensures.value)) (r ∙ ap (λ (v : List Atomic). Some v) (sym c.as_slice-2.ensures.value))))
    (c.compared_lists.ensures.failed forest)

pub returns-in_default-clause-failed : goal.returns-in_default-clause-failed
returns-in_default-clause-failed c = λ forest later.
    let xs : Items = items_in later c.args.left.now in
    let ys : Items = items_in later c.args.right.now in
    let none : atoms_among xs ≡ None = rw c.in_default.is at (c.in_ok-left_values.ensures later) in
    no_left_atoms c.args.op xs ys forest (omega (arith, c.requires.left_one, length-map c.args.left.now (item_in later))) (omega (arith, c.requires.right_one, length-map c.args.right.now (item_in later))) none

pub returns-in_default-2-clause-failed : goal.returns-in_default-2-clause-failed
returns-in_default-2-clause-failed c = λ forest later.
    let xs : Items = items_in later c.args.left.now in
    let ys : Items = items_in later c.args.right.now in
    let none : atoms_among ys ≡ None = rw c.in_default-2.is at (c.in_ok-right_values.ensures later) in
    no_right_atoms c.args.op xs ys forest (omega (arith, c.requires.left_one, length-map c.args.left.now (item_in later))) (omega (arith, c.requires.right_one, length-map c.args.right.now (item_in later))) none
