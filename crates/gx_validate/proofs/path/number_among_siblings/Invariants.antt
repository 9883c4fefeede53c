use Rattle.std.proofs.Common.{◌≡◌, ◌+◌, take}
use Rattle.std.specs.List.{count_by}
use Rattle.gx_validate.specs.Outcome.{is_element_named}
use Rattle.gx_validate.proofs.path.number_among_siblings.Given as goal

abbrev pub invariant-loop-tree : goal.invariant-loop-tree
invariant-loop-tree l = l.number ≡ 1 + count_by (is_element_named l.name) (take l.tree-index l.done.items)
