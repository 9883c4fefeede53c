use Rattle.std.proofs.Common.{◌≡◌, ◌++◌}
use Rattle.gx_tree.specs.StringValue.{string_value}
use Rattle.gx_nodes.specs.Entries.{entry_in}
use Rattle.gx_store.specs.Stored.{own_texts_in}
use Rattle.gx_store.proofs.store.Store.string_value.Given as goal

-- what was pushed, and what is left to push
abbrev pub invariant-loop-below : goal.invariant-loop-below
invariant-loop-below l = l.value ++ own_texts_in l.self l.below-iterator ≡ string_value (entry_in l.self l.fn.node.number).tree
