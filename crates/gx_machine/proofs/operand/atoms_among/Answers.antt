use Rattle.std.proofs.Common.{◌≡◌, suc, ◌++◌, ◌∷◌, [], List, get_or, take, drop, ap, sym, ◌∙◌}
use Rattle.std.proofs.Math.Seq.{drop-cons}
use Rattle.std.proofs.lemmas.List.{take_all, map_more, take-map, drop-map, map-append}
use Rattle.gx_facets.specs.declared.Atomic.{Atomic}
use Rattle.gx_model.specs.Item.{atom, atoms, Items}
use Rattle.gx_core.specs.Comparing.{atoms_among}
use Rattle.gx_nodes.specs.Entries.{place_of_number}
use Rattle.gx_store.specs.declared.item.Item.{Item}
use Rattle.gx_store.specs.declared.item.Item.TheVariants.{Atom, Node}
use Rattle.gx_store.specs.Items.{item_in, items_in}
use Rattle.gx_machine.proofs.Operands.{node_among, atoms_are_among}
use Rattle.gx_machine.proofs.operand.atoms_among.Goals as goal

pub returns-in-Node : goal.returns-in-Node
returns-in-Node c = λ later.
    let items : List Item = c.args.items.now in
    let i = c.loop-item.item-index in
    let here : drop i items ≡ Node c.in-Node.field-0 ∷ drop (suc i) items =
    drop-cons items i c.item-item.result c.loop-item-test.true ∙ ap (λ (x : Item). x ∷ drop (suc i) items) (sym c.item-item.is ∙ c.in-Node.is) in
    node_among (items_in later items) c.loop-item.values.items i (place_of_number later c.in-Node.field-0.number) (items_in later (drop (suc i) items))
    (take-map (item_in later) i items ∙ c.loop-item.invariant later)
    (drop-map (item_in later) i items ∙ ap (items_in later) here)

pub loop-item-preserved : goal.loop-item-preserved
loop-item-preserved c = λ later.
    let items : List Item = c.args.items.now in
    let i = c.loop-item.item-index in
    let here : get_or items i c.item-item.result ≡ Atom c.in_ok-clone-in-Atom.field-0 =
    sym c.item-item.is ∙ c.in-Atom.is ∙ ap (λ (a : Atomic). Atom a) (sym c.in_ok-clone-in-Atom.ensures.cases) in
    map_more (item_in later) items i c.item-item.result c.loop-item-test.true
    ∙ ap (λ (x : Item). items_in later (take i items) ++ item_in later x ∷ []) here
    ∙ ap (λ (v : Items). v ++ atom c.in_ok-clone-in-Atom.field-0 ∷ []) (c.loop-item.invariant later)
    ∙ sym (map-append atom c.loop-item.values.items (c.in_ok-clone-in-Atom.field-0 ∷ []))
    ∙ ap atoms (sym c.in_ok-push-in-Atom.ensures.items)

pub returns : goal.returns
returns c = λ later.
    ap (λ xs. atoms_among (items_in later xs)) (sym (take_all c.loop-item.item-index c.args.items.now c.loop-item-test.false)) ∙ ap atoms_among (c.loop-item.invariant later) ∙ atoms_are_among c.loop-item.values.items
