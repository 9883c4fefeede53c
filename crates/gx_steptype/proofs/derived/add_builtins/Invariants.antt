use Rattle.std.proofs.Common.{◌≡◌, ◌++◌, drop, map}
use Rattle.gx_steptype.specs.DerivedTypes.{derived_among, listed_names}
use Rattle.gx_steptype.proofs.derived.add_builtins.Given as goal

-- what was added, and what is derived of the rest
abbrev pub invariant-loop-builtin : goal.invariant-loop-builtin
invariant-loop-builtin g l =
    l.types.items ++ map (g.T.OfType.of l.of) (derived_among l.schemas l.kind (listed_names (drop l.builtin-index l.listed)))
    ≡ l.fn.types.items ++ map (g.T.OfType.of l.of) (derived_among l.schemas l.kind (listed_names l.listed))
