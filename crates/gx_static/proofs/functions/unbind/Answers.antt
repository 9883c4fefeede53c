use Rattle.std.proofs.Common.{drop, ◌∙◌, ap, drop-drop}
use Rattle.gx_core.specs.Bindings.{Types}
use Rattle.gx_static.proofs.functions.unbind.Goals as goal

pub loop-preserved : goal.loop-preserved
loop-preserved c = c.unbind.ensures ∙ ap (λ (scope : Types). drop 1 scope) c.loop.invariant ∙ drop-drop 1 c.loop.counter c.args.scope.now
