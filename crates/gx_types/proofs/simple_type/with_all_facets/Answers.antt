use Rattle.std.proofs.Common.{◌++◌, List, length, sym, ◌∙◌, ap, arith}
use Rattle.std.specs.List.{filter_map}
use Rattle.gx_types.specs.BaseChain.{base_chain}
use Rattle.gx_types.specs.SimpleType.{own_facets}
use Rattle.gx_types.specs.SimpleView.{facets_view}
use Rattle.gx_types.specs.declared.declaration.Declared.{Declared}
use Rattle.gx_types.proofs.BaseChains.{chain_goes_on, facets_go_on}
use Rattle.gx_types.proofs.simple_type.with_all_facets.Goals as goal

pub loop-declared-smaller : goal.loop-declared-smaller
loop-declared-smaller c =
    let longer = ap length (chain_goes_on c.args.types.now c.loop-declared.base.now c.in-Some.declared.now c.requires (sym c.in-Some.ensures)) in
    omega (arith, longer)

pub loop-declared-preserved : goal.loop-declared-preserved
loop-declared-preserved c =
    let longer = chain_goes_on c.args.types.now c.loop-declared.base.now c.in-Some.declared.now c.requires (sym c.in-Some.ensures) in
    facets_go_on (facets_view c.loop-declared.facets) _ c.in-Some.declared.now (base_chain c.args.types.now c.in-Some.declared.now.base) c.in_ok-facets.ensures
    ∙ sym (ap (λ (chain : List Declared). facets_view c.loop-declared.facets ++ filter_map (λ (declared : Declared). own_facets declared.content) chain) longer)
    ∙ c.loop-declared.invariant
