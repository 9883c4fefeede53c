use Rattle.std.proofs.Common.{◌≡◌, map, take}
use Rattle.gx_plan.specs.Plan.{kind_carried}
use Rattle.gx_rules.proofs.made.kind_over.Given as goal

-- the types of the parts so far
abbrev pub invariant-loop-part : goal.invariant-loop-part
invariant-loop-part l = l.kinds.items ≡ map kind_carried (take l.part-index l.parts)
