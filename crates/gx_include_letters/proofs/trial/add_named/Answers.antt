use Rattle.std.proofs.Common.{map}
use Rattle.gx_include_letters.specs.Trials.{made}
use Rattle.gx_include_positions.proofs.Lists.{flat_step}
use Rattle.gx_include_letters.proofs.trial.add_named.Goals as goal

pub loop-name-preserved : goal.loop-name-preserved
loop-name-preserved c =
    flat_step (λ name. map (λ t. made c.args.sort name t) c.args.types.now) c.args.names.now c.loop-name.name-index c.name-item.result c.loop-name-test.true c.name-item.is
    c.args.shapes.now.items c.loop-name.shapes.items c.add_typed.new.shapes.items c.loop-name.invariant c.in_ok-add_typed.ensures
