use Rattle.std.proofs.Common.{◌≡◌, take}
use Rattle.gx_tree.proofs.same.same_attributes.Given as goal

abbrev pub invariant-loop-i : goal.invariant-loop-i
invariant-loop-i l = take l.i l.l.items ≡ take l.i l.r.items
