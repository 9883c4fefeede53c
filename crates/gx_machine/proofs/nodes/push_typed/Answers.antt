use Rattle.std.proofs.Common.{◌≡◌, ◌++◌, ◌∷◌, [], List, Option, Some, ap, sym, ◌∙◌}
use Rattle.std.specs.Option.{option_map}
use Rattle.gx_facets.specs.declared.Atomic.{Atomic}
use Rattle.gx_model.specs.Item.{atom, atoms, Items}
use Rattle.gx_model.specs.TypedValue.{value_of_node}
use Rattle.gx_nodes.specs.Entries.{place_of_number}
use Rattle.gx_store.specs.Items.{items_in}
use Rattle.gx_machine.proofs.nodes.push_typed.Goals as goal

pub returns-in_ok-push_atom-in-Atom-clause-value : goal.returns-in_ok-push_atom-in-Atom-clause-value
returns-in_ok-push_atom-in-Atom-clause-value c = λ later x.
    let typed : Items = items_in later c.args.typed.now.items in
    rw c.in-Atom.is
    (ap (λ (v : Items). Some v)
    (ap (λ (a : Atomic). typed ++ atom a ∷ []) (sym c.in_ok-clone-in-Atom.ensures.cases) ∙ sym (c.in_ok-push_atom-in-Atom.ensures later)))

pub returns-in_ok-append_atoms-in-Some-clause-value : goal.returns-in_ok-append_atoms-in-Some-clause-value
returns-in_ok-append_atoms-in-Some-clause-value c = λ later x.
    let typed : Items = items_in later c.args.typed.now.items in
    let found : value_of_node c.args.schemas.now c.args.store.now (place_of_number later c.in-Node.node.number) ≡ Some c.in-Some.values.items = rw c.in-Some.is at (c.in_ok-values-in-Node.ensures later x) in
    rw c.in-Node.is
    (ap (λ (o : Option (List Atomic)). option_map (λ (v : Items). typed ++ v) (option_map atoms o)) found
    ∙ ap (λ (vs : List Atomic). Some (typed ++ atoms vs)) (sym c.as_slice.ensures.value)
    ∙ ap (λ (v : Items). Some v) (sym (c.in_ok-append_atoms-in-Some.ensures later)))
