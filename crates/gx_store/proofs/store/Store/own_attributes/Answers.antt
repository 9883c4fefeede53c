use Rattle.std.proofs.Common.{List, [], ◌∷◌, ◌++◌, map, sym, ap, ◌∙◌, append_assoc}
use Rattle.gx_tree.specs.declared.attribute.Attribute.{Attribute}
use Rattle.gx_model.specs.Forest.{own_attributes}
use Rattle.gx_model.proofs.ListLemmas.{append_none, map_appended}
use Rattle.gx_nodes.specs.Entries.{entry_in}
use Rattle.gx_nodes.specs.Rows.{attributes_among}
use Rattle.gx_store.specs.declared.number.NodeId.{NodeId}
use Rattle.gx_store.specs.Copied.{attribute_as}
use Rattle.gx_store.specs.Left.{trees_numbered}
use Rattle.gx_store.proofs.TreeLemmas.{attributes_trees, among_back, among_joined}
use Rattle.gx_store.proofs.store.Store.own_attributes.Goals as goal

pub loop-own-init : goal.loop-own-init
loop-own-init c =
    let f = c.args.self.now in
    let n = c.args.node.number in
    ap (λ (v : List Attribute). v ++ map (attribute_as c.args.annotations) (attributes_among (trees_numbered f c.into_iter-own-iterator.result))) c.new-list.ensures.items
    ∙ ap (λ (ms : List NodeId). map (attribute_as c.args.annotations) (attributes_among (trees_numbered f ms))) (c.into_iter-own-iterator.ensures.into_iter_gives ∙ c.attributes_of-own-items.ensures)
    ∙ ap (map (attribute_as c.args.annotations)) (ap attributes_among (attributes_trees f n c.requires) ∙ among_back (own_attributes (entry_in f n).tree))

pub loop-own-preserved : goal.loop-own-preserved
loop-own-preserved c =
    let f = c.args.self.now in
    let first = attributes_among ((entry_in f c.in-Some.own.number).tree ∷ []) in
    let others = attributes_among (trees_numbered f c.next.new.self) in
    ap (λ (v : List Attribute). v ++ map (attribute_as c.args.annotations) others) c.in_ok-push_attribute.ensures
    ∙ append_assoc c.loop-own.list.items (map (attribute_as c.args.annotations) first) (map (attribute_as c.args.annotations) others)
    ∙ ap (λ (v : List Attribute). c.loop-own.list.items ++ v)
    (sym (map_appended (attribute_as c.args.annotations) first others) ∙ ap (map (attribute_as c.args.annotations)) (sym (among_joined (entry_in f c.in-Some.own.number).tree (trees_numbered f c.next.new.self))))
    ∙ ap (λ (ms : List NodeId). c.loop-own.list.items ++ map (attribute_as c.args.annotations) (attributes_among (trees_numbered f ms))) (sym c.in-Some.ensures.steps)
    ∙ c.loop-own.invariant

pub returns : goal.returns
returns c =
    sym (append_none c.loop-own.list.items)
    ∙ ap (λ (ms : List NodeId). c.loop-own.list.items ++ map (attribute_as c.args.annotations) (attributes_among (trees_numbered c.args.self.now ms))) (sym c.in-None.ensures.steps.0)
    ∙ c.loop-own.invariant
