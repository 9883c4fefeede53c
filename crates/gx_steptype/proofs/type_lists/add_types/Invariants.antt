use Rattle.std.proofs.Common.{◌≡◌, ◌++◌, drop, filter}
use Rattle.gx_types.specs.SchemaSet.{names_declared}
use Rattle.gx_types.specs.Derivation.{is_derived}
use Rattle.gx_steptype.specs.ListedTypes.{types_listed, OfDeclared}
use Rattle.gx_steptype.proofs.type_lists.add_types.Given as goal

-- what is listed, with what is to be listed of the rest
abbrev pub invariant-loop-declared : goal.invariant-loop-declared
invariant-loop-declared l =
    OfDeclared l.schemas (λ kind.
    types_listed l.lists kind ++ filter (λ t. is_derived l.schemas t kind) (names_declared (drop l.declared-index l.types))
    ≡ types_listed l.fn.lists kind ++ filter (λ t. is_derived l.schemas t kind) (names_declared l.types))
