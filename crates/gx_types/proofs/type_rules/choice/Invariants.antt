use Rattle.std.proofs.Common.{◌≡◌, take}
use Rattle.gx_types.specs.Alternatives.{choice_from}
use Rattle.gx_types.proofs.type_rules.choice.Given as goal

abbrev pub invariant-loop-t : goal.invariant-loop-t
invariant-loop-t l = l.choice ≡ choice_from (take l.t-index l.types)
