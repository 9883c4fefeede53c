use Rattle.std.proofs.Common.{◌≡◌}
use Rattle.std.specs.List.{list_any}
use Rattle.gx_nodes.specs.Entries.{entry_in}
use Rattle.gx_store.specs.Agreeing.{are_attributes_alike, attribute_trees}
use Rattle.gx_store.specs.Left.{trees_numbered}
use Rattle.gx_store.proofs.store.Store.has_equal.Given as goal

-- none of those that were tried is equal
abbrev pub invariant-loop-attribute : goal.invariant-loop-attribute
invariant-loop-attribute l =
    list_any (are_attributes_alike (entry_in l.self l.own).tree) (trees_numbered l.self l.attribute-iterator) ≡ list_any (are_attributes_alike (entry_in l.self l.own).tree) (attribute_trees l.self l.other)
