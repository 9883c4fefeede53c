use Rattle.std.proofs.Common.{◌≡◌, suc, ◌+◌, ◌-◌, length, sym, ◌∙◌, ap, arith}
use Rattle.gx_schema.specs.SimpleBases.{simple_base_within}
use Rattle.gx_schema.proofs.SimpleVarieties.{behind_step}
use Rattle.gx_schema.proofs.simple_bases.simple_base.Goals as goal

pub loop-preserved : goal.loop-preserved
loop-preserved c =
    let types = c.args.types.now in
    let less = length types - (c.loop.counter + 1) in
    let left : length types - c.loop.counter ≡ suc less = omega (arith, c.loop-test.true) in
    sym (behind_step types c.in-Declared.number c.in-Some.base (length types - c.loop.counter) less left (sym c.base_of_simple_content.ensures ∙ c.in-Some.is))
    ∙ ap (simple_base_within types (length types - c.loop.counter)) (sym c.in-Declared.is)
    ∙ c.loop.invariant
