use Rattle.std.proofs.Common.{◌≡◌, ◌++◌, take}
use Rattle.gx_machine.proofs.operand.append_all.Given as goal

-- copies of the items so far stand behind the values
abbrev pub invariant-loop-item : goal.invariant-loop-item
invariant-loop-item l = l.values.items ≡ l.initial.values.items ++ take l.item-index l.items
