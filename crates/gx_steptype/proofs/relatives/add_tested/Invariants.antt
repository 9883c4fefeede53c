use Rattle.std.proofs.Common.{◌≡◌, ◌++◌, drop, map}
use Rattle.gx_steptype.specs.AskedView.{kind_asked}
use Rattle.gx_steptype.specs.TestedType.{tested_item}
use Rattle.gx_steptype.proofs.relatives.add_tested.Given as goal

-- what was added, and what is left of the rest
abbrev pub invariant-loop-kind : goal.invariant-loop-kind
invariant-loop-kind l =
    l.types.items ++ map (tested_item l.schemas (kind_asked l.asked)) (drop l.kind-index l.kinds) ≡ l.fn.types.items ++ map (tested_item l.schemas (kind_asked l.asked)) l.kinds
