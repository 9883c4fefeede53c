use Rattle.std.proofs.Common.{sym, ◌∙◌, ap, arith, length}
use Rattle.gx_types.specs.BaseChain.{end_of_chain}
use Rattle.gx_types.specs.SimpleType.{built_in}
use Rattle.gx_types.proofs.BaseChains.{chain_goes_on, chain_is_over}
use Rattle.gx_types.proofs.simple_type.bottom.Goals as goal

pub loop-declared-smaller : goal.loop-declared-smaller
loop-declared-smaller c =
    let longer = ap length (chain_goes_on c.args.types.now c.loop-declared.end.now c.in-Some.declared.now c.requires (sym c.in-Some.ensures)) in
    omega (arith, longer)

pub loop-declared-preserved : goal.loop-declared-preserved
loop-declared-preserved c =
    let longer = chain_goes_on c.args.types.now c.loop-declared.end.now c.in-Some.declared.now c.requires (sym c.in-Some.ensures) in
    sym (ap (λ chain. end_of_chain chain c.loop-declared.end.now) longer) ∙ c.loop-declared.invariant

pub returns-in-Builtin : goal.returns-in-Builtin
returns-in-Builtin c =
    let over = chain_is_over c.args.types.now c.loop-declared.end.now c.requires (sym c.in_default.ensures) in
    ap built_in (sym c.in-Builtin.is ∙ sym (ap (λ chain. end_of_chain chain c.loop-declared.end.now) over) ∙ c.loop-declared.invariant)
