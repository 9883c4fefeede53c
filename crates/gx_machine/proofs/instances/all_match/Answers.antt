use Rattle.std.proofs.Common.{arith}
use Rattle.std.proofs.lemmas.Grind.{common_steps}
use Rattle.gx_machine.proofs.instances.all_match.Goals as goal

pub returns-then-not-matches_type : goal.returns-then-not-matches_type
returns-then-not-matches_type c = λ later x. grind (arith, common_steps, c.loop-value.invariant later x, c.matches_type.ensures later x)

pub loop-value-preserved : goal.loop-value-preserved
loop-value-preserved c = λ later x. grind (arith, common_steps, c.loop-value.invariant later x, c.matches_type.ensures later x)

pub returns : goal.returns
returns c = λ later x. grind (arith, common_steps, c.loop-value.invariant later x)
