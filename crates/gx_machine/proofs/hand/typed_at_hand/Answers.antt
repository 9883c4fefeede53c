use Rattle.std.proofs.Common.{◌≡◌, [], ◌∷◌, List, Option, Some, append-nil, ap, sym, ◌∙◌}
use Rattle.std.specs.Option.{option_map}
use Rattle.gx_facets.specs.declared.Atomic.{Atomic}
use Rattle.gx_tree.specs.PlainTree.{PlainTree}
use Rattle.gx_model.specs.Forest.{node_in, then_found}
use Rattle.gx_model.specs.Atomization.{joined_values}
use Rattle.gx_model.specs.Item.{Items, atom, atoms}
use Rattle.gx_model.specs.TypedValue.{value_of_node, untyped_value}
use Rattle.gx_nodes.specs.Entries.{place_of_number}
use Rattle.gx_store.specs.Stored.{kind_of}
use Rattle.gx_machine.proofs.AtHand.{if_some, untyped_is}
use Rattle.gx_machine.proofs.hand.typed_at_hand.Goals as goal

pub returns-in-Some-2 : goal.returns-in-Some-2
returns-in-Some-2 c = λ later x.
    let values : value_of_node c.args.schemas.now c.args.store.now (place_of_number later c.args.node.number) ≡ Some c.in-Some-2.values.items = rw c.in-Some-2.is at (c.in_ok-values.ensures later x) in
    if_some c.one_at_hand.result (c.one_at_hand.ensures later)
    (λ hand e.
    ap (λ (o : Option (List Atomic)). joined_values (option_map atoms o) (Some [])) values ∙ ap (λ (v : Items). Some v) (append-nil (atoms c.in-Some-2.values.items) ∙ e))

pub returns-then-is_untyped : goal.returns-then-is_untyped
returns-then-is_untyped c = λ later x.
    let s = c.args.schemas.now in
    let found : Option PlainTree = node_in c.args.store.now (place_of_number later c.args.node.number) in
    let kind : then_found found kind_of ≡ Some c.in-Some.kind.now = sym (rw c.in-Some.is at (c.annotation.ensures later x)) in
    ap (λ (o : Option (List Atomic)). joined_values (option_map atoms o) (Some []))
    (untyped_is s found c.in-Some.kind.now kind (λ string. c.is_untyped.ensures s string c.if-is_untyped.true) ∙ ap untyped_value (sym (c.in_ok-text.ensures later x)))
    ∙ ap (λ (a : Atomic). Some (atom a ∷ [])) (sym c.untyped_atom.ensures)
