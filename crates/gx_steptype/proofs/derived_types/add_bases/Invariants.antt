use Rattle.std.proofs.Common.{◌≡◌, drop}
use Rattle.indexmap.specs.IndexSet.{insert_all}
use Rattle.gx_types.specs.TypeIndex.{equal_kinds}
use Rattle.gx_steptype.specs.DeclaredBases.{declared_bases}
use Rattle.gx_steptype.proofs.derived_types.add_bases.Given as goal

-- what was put, and the bases of the rest
abbrev pub invariant-loop-declared : goal.invariant-loop-declared
invariant-loop-declared l =
    insert_all equal_kinds l.bases.keys (declared_bases (drop l.declared-index l.types)) ≡ insert_all equal_kinds l.fn.bases.keys (declared_bases l.types)
