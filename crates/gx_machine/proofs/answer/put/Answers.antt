use Rattle.std.proofs.Common.{◌≡◌, ◌++◌, ℤ, List, map, rules, subst}
use Rattle.std.specs.Prelude.{FitsSigned, OnOk}
use Rattle.std.specs.Int.{w128}
use Rattle.std.proofs.lemmas.Int.{to_z-of_z}
use Rattle.gx_facets.specs.declared.Atomic.{Atomic}
use Rattle.gx_model.specs.Item.{atoms, node}
use Rattle.gx_core.specs.Ranging.{integers_from}
use Rattle.gx_store.specs.declared.number.NodeId.{NodeId}
use Rattle.gx_store.specs.Items.{items_in}
use Rattle.gx_store.specs.Places.{node_places}
use Rattle.gx_machine.proofs.answer.put.Goals as goal

pub returns-in-One : goal.returns-in-One
returns-in-One c = λ later. rw c.in-One.is (c.push_atom.ensures later)

pub returns-in-Integers : goal.returns-in-Integers
returns-in-Integers c = λ later.
    let fits : FitsSigned w128 c.in-Integers.first = search rules in
    rw c.in-Integers.is
    (subst (λ (z : ℤ). OnOk c.put_integers.result (items_in later c.put_integers.new.values.items ≡ items_in later c.args.values.now.items ++ atoms (integers_from z c.in-Integers.count)))
    (to_z-of_z w128 c.in-Integers.first fits) (c.put_integers.ensures later))

pub returns-in-NodeSequence : goal.returns-in-NodeSequence
returns-in-NodeSequence c = λ later.
    rw c.in-NodeSequence.is
    (subst (λ (ns : List NodeId). OnOk c.append_nodes.result (items_in later c.append_nodes.new.items.items ≡ items_in later c.args.values.now.items ++ map node (node_places later ns)))
    c.as_slice.ensures.value (c.append_nodes.ensures later))

pub returns-in-Values : goal.returns-in-Values
returns-in-Values c = λ later.
    rw c.in-Values.is
    (subst (λ (added : List Atomic). OnOk c.put_atoms.result (items_in later c.put_atoms.new.values.items ≡ items_in later c.args.values.now.items ++ atoms added)) c.as_slice-in-Values.ensures.value (c.put_atoms.ensures later))

pub returns-in-Items : goal.returns-in-Items
returns-in-Items c = λ later. rw c.in-Items.is (c.move_behind.ensures later)
