use Rattle.std.proofs.Common.{◌≡◌, Bool, true}
use Rattle.std.specs.List.{list_all, list_any}
use Rattle.gx_tree.specs.PlainTree.{PlainTree}
use Rattle.gx_store.specs.Agreeing.{are_attributes_alike, attribute_trees}
use Rattle.gx_store.specs.Left.{trees_numbered}
use Rattle.gx_store.proofs.store.Store.all_have_equals.Given as goal

-- those that were tried have equal ones, and what is left beside them is of the other node
abbrev pub invariant-loop-own : goal.invariant-loop-own
invariant-loop-own l = record {
  left : list_all (λ t. list_any (are_attributes_alike t) (attribute_trees l.self l.other)) (trees_numbered l.self l.own-iterator)
      ≡ list_all (λ t. list_any (are_attributes_alike t) (attribute_trees l.self l.other)) (attribute_trees l.self l.one);
  among : (p : PlainTree → Bool) → list_any p (trees_numbered l.self l.others) ≡ true → list_any p (attribute_trees l.self l.other) ≡ true;
}
