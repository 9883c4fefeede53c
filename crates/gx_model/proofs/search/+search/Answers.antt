use Rattle.std.proofs.Common.{arith, ap}
use Rattle.gx_tree.proofs.TreesLemmas.{item_le-trees_size}
use Rattle.gx_tree.specs.PlainTree.{trees_of, trees_size}
use Rattle.gx_model.specs.Forest.{PlainNode}
use Rattle.gx_model.specs.Location.{location_of, node_of_tree}
use Rattle.gx_model.specs.Axes.{leads_to, passes}
use Rattle.gx_model.proofs.SearchLemmas.{children_size, search_joined}
use Rattle.gx_model.proofs.search.+search.Goals as goal

pub search_children-search_tree-requires : goal.search_children-search_tree-requires
search_children-search_tree-requires t c =
    let smaller = item_le-trees_size c.args.trees.now c.loop-position.position c.index-trees-position.result c.loop-position-test.true c.index-trees-position.is in
    (omega (arith, smaller), tt)

pub search_tree-search_children-requires : goal.search_tree-search_children-requires
search_tree-search_children-requires t c =
    let smaller = children_size c.args.tree.now in
    (omega (arith, smaller, ap (λ ts. trees_size (trees_of ts)) c.children-trees.ensures), tt)

pub search_tree-returns-clause-sought : goal.search_tree-returns-clause-sought
search_tree-returns-clause-sought t c =
    search_joined (leads_to c.args.axis (location_of c.args.from.now)) (passes c.args.schemas.now c.args.axis c.args.test.now) c.args.path.now.items c.args.tree.now
    (node_of_tree c.args.from.now.tree) c.args.found.now.items c.keep.new.found.items c.search_attributes.new.found.items c.search_children.new.found.items
    c.is_sought-sought.result c.attributes-list.result.now c.children-trees.result.now
    (rw c.deref.ensures.value at c.is_sought-sought.ensures) c.attributes-list.ensures c.children-trees.ensures
    (rw (c.deref-2.ensures.value, ap (λ (n : PlainNode). n.tree) c.from.view_is) at c.in_ok-keep.ensures) (rw c.deref-3.ensures.value at c.in_ok-search_attributes.ensures) c.in_ok-search_children.ensures.sought
