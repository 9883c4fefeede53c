use Rattle.std.proofs.Common.{arith}
use Rattle.gx_build.specs.Depths.{are_too_deep}
use Rattle.gx_build.proofs.DepthLemmas.{size_positive, too_deep_at_zero}
use Rattle.gx_build.proofs.depth.enter.Goals as goal

pub returns-then-limit-eq0-clause-depth : goal.returns-then-limit-eq0-clause-depth
returns-then-limit-eq0-clause-depth c = too_deep_at_zero c.args.limit c.args.tree.now (are_too_deep c.args.levels.now) c.if-limit-eq0.true

pub returns-then-limit-eq0-clause-less : goal.returns-then-limit-eq0-clause-less
returns-then-limit-eq0-clause-less c = omega (arith, size_positive c.args.tree.now)
