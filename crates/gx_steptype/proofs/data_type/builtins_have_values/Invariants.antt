use Rattle.std.proofs.Common.{◌≡◌, drop}
use Rattle.std.specs.List.{list_all}
use Rattle.gx_steptype.specs.DerivedTypes.{derived_among, listed_names}
use Rattle.gx_steptype.specs.DataType.{has_value, values_of_type}
use Rattle.gx_steptype.proofs.data_type.builtins_have_values.Given as goal

-- the rest decides
abbrev pub invariant-loop-builtin : goal.invariant-loop-builtin
invariant-loop-builtin l =
    list_all (λ t. has_value (values_of_type l.schemas t)) (derived_among l.schemas l.kind (listed_names (drop l.builtin-index l.listed)))
    ≡ list_all (λ t. has_value (values_of_type l.schemas t)) (derived_among l.schemas l.kind (listed_names l.listed))
