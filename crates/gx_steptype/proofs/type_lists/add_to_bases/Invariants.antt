use Rattle.std.proofs.Common.{◌≡◌, ◌++◌}
use Rattle.gx_steptype.specs.ListedTypes.{alone_if_derived, types_listed, OfDeclared}
use Rattle.gx_steptype.proofs.type_lists.add_to_bases.Given as goal

-- what is listed, with what is to be listed for the bases that are left
abbrev pub invariant-loop-step : goal.invariant-loop-step
invariant-loop-step l =
    OfDeclared l.schemas (λ kind. types_listed l.lists kind ++ alone_if_derived l.schemas l.t l.at kind ≡ types_listed l.fn.lists kind ++ alone_if_derived l.schemas l.t l.t kind)
