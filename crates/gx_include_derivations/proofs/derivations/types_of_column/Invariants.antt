use Rattle.std.proofs.Common.{◌≡◌, take}
use Rattle.std.specs.List.{flat_map}
use Rattle.gx_include_derivations.proofs.DerivedTypes.{name_if_derived}
use Rattle.gx_include_derivations.proofs.derivations.types_of_column.Given as goal

-- the declared types before this one
abbrev pub invariant-loop-number : goal.invariant-loop-number
invariant-loop-number l = l.types.items ≡ flat_map (name_if_derived l.schemas l._kind) (take l.number l.schemas.types)
