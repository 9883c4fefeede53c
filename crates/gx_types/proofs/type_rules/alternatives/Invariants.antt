use Rattle.std.proofs.Common.{◌≡◌, take}
use Rattle.gx_types.specs.Alternatives.{alternatives_among}
use Rattle.gx_types.proofs.type_rules.alternatives.Given as goal

abbrev pub invariant-loop-t : goal.invariant-loop-t
invariant-loop-t l = l.found.keys ≡ alternatives_among (take l.t-index l.types)
