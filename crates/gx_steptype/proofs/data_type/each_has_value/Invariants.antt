use Rattle.std.proofs.Common.{◌≡◌, drop}
use Rattle.std.specs.List.{list_all}
use Rattle.gx_steptype.specs.DataType.{has_value, values_of_type}
use Rattle.gx_steptype.proofs.data_type.each_has_value.Given as goal

-- the rest decides
abbrev pub invariant-loop-kind : goal.invariant-loop-kind
invariant-loop-kind l = list_all (λ t. has_value (values_of_type l.schemas t)) (drop l.kind-index l.kinds) ≡ list_all (λ t. has_value (values_of_type l.schemas t)) l.kinds
