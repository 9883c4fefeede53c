use Rattle.std.proofs.Common.{◌≡◌, ◌++◌, length}
use Rattle.std.specs.List.{filter_map}
use Rattle.gx_types.specs.BaseChain.{base_chain}
use Rattle.gx_types.specs.SimpleType.{own_facets, all_facets}
use Rattle.gx_types.specs.SimpleView.{facets_view}
use Rattle.gx_types.specs.declared.declaration.Declared.{Declared}
use Rattle.gx_types.proofs.simple_type.with_all_facets.Given as goal

-- the facets so far, and those of the chain that is left
abbrev pub invariant-loop-declared : goal.invariant-loop-declared
invariant-loop-declared l =
    facets_view l.facets ++ filter_map (λ (declared : Declared). own_facets declared.content) (base_chain l.types l.base) ≡ facets_view l.fn.facets ++ all_facets l.types l.fn.t

abbrev pub decreases-loop-declared : goal.decreases-loop-declared
decreases-loop-declared l = length (base_chain l.types l.base)
