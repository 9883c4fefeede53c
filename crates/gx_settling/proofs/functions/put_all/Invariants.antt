use Rattle.std.proofs.Common.{◌≡◌, length, nat_eq}
use Rattle.indexmap.specs.IndexSet.{insert_all}
use Rattle.gx_settling.proofs.functions.put_all.Given as goal

-- those that are left are put behind the others
abbrev pub invariant-loop-number : goal.invariant-loop-number
invariant-loop-number l = record {
  put : insert_all nat_eq l.found.keys l.left ≡ insert_all nat_eq l.fn.found.keys l.fn.numbers;
}

abbrev pub decreases-loop-number : goal.decreases-loop-number
decreases-loop-number l = length l.left
