use Rattle.std.proofs.Common.{◌≡◌, List, Option, Some, refl, ap, sym, ◌∙◌}
use Rattle.std.proofs.lemmas.Result.{err_from_is_err_and}
use Rattle.gx_base.specs.declared.type_name.TypeName.TheVariants as names
use Rattle.gx_model.specs.Atomization.{atomized}
use Rattle.gx_model.specs.Item.{Items}
use Rattle.gx_core.specs.Converting.{converted_to}
use Rattle.gx_core.specs.Outcome.{gives, given}
use Rattle.gx_store.specs.declared.item.Item.{Item}
use Rattle.gx_store.specs.Items.{items_in}
use Rattle.gx_machine.proofs.ValueArguments.{atoms_seen, atoms_unseen, not_typed, not_cast}
use Rattle.gx_machine.proofs.value_calling.argument_values.Goals as goal

pub returns-in_err-typed-in-Data-clause-failed : goal.returns-in_err-typed-in-Data-clause-failed
returns-in_err-typed-in-Data-clause-failed c = λ later next x.
    let p = err_from_is_err_and c.from_residual.result c.from_residual.ensures.1 in
    rw (p.1, p.2, c.in-Data.is)
    (not_typed _ c.args.store.now (atomized c.args.schemas.now c.args.store.now (items_in later c.args.argument.now)) next (c.in_err-typed-in-Data.ensures.failed later x))

pub returns-in_err-cast-in-DataAndCast-clause-failed : goal.returns-in_err-cast-in-DataAndCast-clause-failed
returns-in_err-cast-in-DataAndCast-clause-failed c = λ later next x.
    let p = err_from_is_err_and c.from_residual-in_err-cast-in-DataAndCast.result c.from_residual-in_err-cast-in-DataAndCast.ensures.1 in
    rw (p.1, p.2, c.in-DataAndCast.is)
    (not_cast _ (converted_to (Some (names.Builtin c.in-DataAndCast.kind)) c.args.schemas.now (items_in later c.args.argument.now) c.args.store.now) next (c.in_err-cast-in-DataAndCast.ensures.failed later x))

pub returns-in-Nothing-clause-value : goal.returns-in-Nothing-clause-value
returns-in-Nothing-clause-value c = λ later x. rw c.in-Nothing.is (atoms_seen c.only_atoms.result (gives (items_in later c.args.argument.now) c.args.store.now) (items_in later c.args.argument.now) c.args.store.now refl (c.only_atoms.ensures.value later))

pub returns-in-Nothing-clause-failed : goal.returns-in-Nothing-clause-failed
returns-in-Nothing-clause-failed c = λ later next x.
    rw c.in-Nothing.is (atoms_unseen c.only_atoms.result (gives (items_in later c.args.argument.now) c.args.store.now) (items_in later c.args.argument.now) c.args.store.now next refl (c.only_atoms.ensures.failed later))

pub returns-in_ok-typed-in-Data-clause-value : goal.returns-in_ok-typed-in-Data-clause-value
returns-in_ok-typed-in-Data-clause-value c = λ later x.
    let forest = c.args.store.now in
    let typed : atomized c.args.schemas.now forest (items_in later c.args.argument.now) ≡ Some (items_in later c.as_slice.result.now) =
    c.in_ok-typed-in-Data.ensures.value later x ∙ ap (λ (xs : List Item). Some (items_in later xs)) (sym c.as_slice.ensures.value) in
    rw c.in-Data.is
    (atoms_seen c.only_atoms-in-Data.result (given (atomized c.args.schemas.now forest (items_in later c.args.argument.now)) (λ ys. gives ys forest)) (items_in later c.as_slice.result.now) forest
    (ap (λ (o : Option Items). given o (λ ys. gives ys forest)) typed) (c.only_atoms-in-Data.ensures.value later))

pub returns-in_ok-typed-in-Data-clause-failed : goal.returns-in_ok-typed-in-Data-clause-failed
returns-in_ok-typed-in-Data-clause-failed c = λ later next x.
    let forest = c.args.store.now in
    let typed : atomized c.args.schemas.now forest (items_in later c.args.argument.now) ≡ Some (items_in later c.as_slice.result.now) =
    c.in_ok-typed-in-Data.ensures.value later x ∙ ap (λ (xs : List Item). Some (items_in later xs)) (sym c.as_slice.ensures.value) in
    rw c.in-Data.is
    (atoms_unseen c.only_atoms-in-Data.result (given (atomized c.args.schemas.now forest (items_in later c.args.argument.now)) (λ ys. gives ys forest)) (items_in later c.as_slice.result.now) forest next
    (ap (λ (o : Option Items). given o (λ ys. gives ys forest)) typed) (c.only_atoms-in-Data.ensures.failed later))

pub returns-in_ok-cast-in-DataAndCast-clause-value : goal.returns-in_ok-cast-in-DataAndCast-clause-value
returns-in_ok-cast-in-DataAndCast-clause-value c = λ later x.
    let forest = c.args.store.now in
    rw c.in-DataAndCast.is
    (atoms_seen c.only_atoms-in-DataAndCast.result (converted_to (Some (names.Builtin c.in-DataAndCast.kind)) c.args.schemas.now (items_in later c.args.argument.now) forest) (items_in later c.as_slice-in-DataAndCast.result.now) forest
    (c.in_ok-cast-in-DataAndCast.ensures.value later x ∙ ap (λ (xs : List Item). gives (items_in later xs) forest) (sym c.as_slice-in-DataAndCast.ensures.value)) (c.only_atoms-in-DataAndCast.ensures.value later))

pub returns-in_ok-cast-in-DataAndCast-clause-failed : goal.returns-in_ok-cast-in-DataAndCast-clause-failed
returns-in_ok-cast-in-DataAndCast-clause-failed c = λ later next x.
    let forest = c.args.store.now in
    rw c.in-DataAndCast.is
    (atoms_unseen c.only_atoms-in-DataAndCast.result (converted_to (Some (names.Builtin c.in-DataAndCast.kind)) c.args.schemas.now (items_in later c.args.argument.now) forest) (items_in later c.as_slice-in-DataAndCast.result.now) forest next
    (c.in_ok-cast-in-DataAndCast.ensures.value later x ∙ ap (λ (xs : List Item). gives (items_in later xs) forest) (sym c.as_slice-in-DataAndCast.ensures.value)) (c.only_atoms-in-DataAndCast.ensures.failed later))
