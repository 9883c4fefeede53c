use Rattle.std.proofs.Common.{◌≡◌, ◌++◌, map}
use Rattle.gx_model.specs.Forest.{own_attributes}
use Rattle.gx_nodes.specs.Entries.{entry_in}
use Rattle.gx_nodes.specs.Rows.{attributes_among}
use Rattle.gx_store.specs.Copied.{attribute_as}
use Rattle.gx_store.specs.Left.{trees_numbered}
use Rattle.gx_store.proofs.store.Store.own_attributes.Given as goal

-- what was pushed, and what is left to push
abbrev pub invariant-loop-own : goal.invariant-loop-own
invariant-loop-own l =
    l.list.items ++ map (attribute_as l.annotations) (attributes_among (trees_numbered l.self l.own-iterator)) ≡ map (attribute_as l.annotations) (own_attributes (entry_in l.self l.fn.node.number).tree)
