use Rattle.std.proofs.Common.{◌≡◌, ◌+◌, ◌-◌}
use Rattle.gx_model.specs.DeepEqual.{are_equal_trees}
use Rattle.gx_nodes.specs.Entries.{entry_in}
use Rattle.gx_store.proofs.AgreeingLemmas.{agree_from}
use Rattle.gx_store.proofs.store.Store.have_equal_trees.Given as goal

-- as far from the one as from the other, and all agreed so far
abbrev pub invariant-loop-one : goal.invariant-loop-one
invariant-loop-one l = record {
  beside : l.other + l.a ≡ l.one + l.b;
  left : are_equal_trees (entry_in l.self l.a).tree (entry_in l.self l.b).tree ≡ agree_from l.self l.a l.b l.end l.one;
}

abbrev pub decreases-loop-one : goal.decreases-loop-one
decreases-loop-one l = l.end - l.one
