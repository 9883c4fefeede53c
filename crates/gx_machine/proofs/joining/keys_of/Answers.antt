use Rattle.std.proofs.Common.{◌≡◌, ◌+◌, suc, ◌++◌, ◌∷◌, [], List, Some, get_or, map, take, drop, refl, ap, sym, ◌∙◌}
use Rattle.std.specs.Prelude.{option_map}
use Rattle.std.proofs.Math.Seq.{drop-cons}
use Rattle.std.proofs.lemmas.List.{take_all, map_more, take-map, drop-map, map-append}
use Rattle.gx_facets.specs.declared.Atomic.{Atomic}
use Rattle.gx_atomic.specs.declared.join_key.JoinKey.{JoinKey}
use Rattle.gx_atomic.specs.JoinKey.{join_key_of}
use Rattle.gx_model.specs.Item.{atom, atoms, Items}
use Rattle.gx_joins.specs.HashJoin.{keys_of_items as keys_of}
use Rattle.gx_nodes.specs.Entries.{place_of_number}
use Rattle.gx_store.specs.declared.item.Item.{Item}
use Rattle.gx_store.specs.declared.item.Item.TheVariants.{Atom, Node}
use Rattle.gx_store.specs.Items.{item_in, items_in}
use Rattle.gx_machine.proofs.Operands.{node_among, atoms_are_among}
use Rattle.gx_machine.proofs.joining.keys_of.Goals as goal

pub returns-in-Node : goal.returns-in-Node
returns-in-Node c = λ later.
    let items : List Item = c.args.items.now in
    let i = c.loop-item.item-index in
    let so_far = c.loop-item.invariant later in
    let here : drop i items ≡ Node c.in-Node.field-0 ∷ drop (suc i) items =
    drop-cons items i c.item-item.result c.loop-item-test.true ∙ ap (λ (x : Item). x ∷ drop (suc i) items) (sym c.item-item.is ∙ c.in-Node.is) in
    ap (option_map (map join_key_of))
    (node_among (items_in later items) so_far.0 i (place_of_number later c.in-Node.field-0.number) (items_in later (drop (suc i) items))
    (take-map (item_in later) i items ∙ so_far.1)
    (drop-map (item_in later) i items ∙ ap (items_in later) here))

pub loop-item-preserved : goal.loop-item-preserved
loop-item-preserved c = λ later.
    let items : List Item = c.args.items.now in
    let i = c.loop-item.item-index in
    let so_far = c.loop-item.invariant later in
    let a : Atomic = c.in-Atom.value in
    let here : get_or items i c.item-item.result ≡ Atom a = sym c.item-item.is ∙ c.in-Atom.is in
    let all : items_in later (take (i + 1) items) ≡ atoms (so_far.0 ++ a ∷ []) =
    map_more (item_in later) items i c.item-item.result c.loop-item-test.true
    ∙ ap (λ (x : Item). items_in later (take i items) ++ item_in later x ∷ []) here
    ∙ ap (λ (v : Items). v ++ atom a ∷ []) so_far.1
    ∙ sym (map-append atom so_far.0 (a ∷ [])) in
    let keys : map join_key_of (so_far.0 ++ a ∷ []) ≡ c.push.new.self.items =
    map-append join_key_of so_far.0 (a ∷ [])
    ∙ ap (λ (ks : List JoinKey). ks ++ join_key_of a ∷ []) so_far.2
    ∙ ap (λ (k : JoinKey). c.loop-item.keys.items ++ k ∷ []) (sym c.in_ok-key-in-Atom.ensures)
    ∙ sym c.in_ok-push-in-Atom.ensures.items in
    (so_far.0 ++ a ∷ [], all, keys)

pub returns : goal.returns
returns c = λ later.
    let so_far = c.loop-item.invariant later in
    ap (λ xs. keys_of (items_in later xs)) (sym (take_all c.loop-item.item-index c.args.items.now c.loop-item-test.false))
    ∙ ap keys_of so_far.1 ∙ ap (option_map (map join_key_of)) (atoms_are_among so_far.0) ∙ ap (λ (ks : List JoinKey). Some ks) so_far.2
