use Rattle.std.proofs.Common.{◌≡◌, length}
use Rattle.gx_funcs.specs.Values.{integers_of_values}
use Rattle.gx_funcs.proofs.CodepointLemmas.{integers_ahead}
use Rattle.gx_funcs.proofs.strings.integers_of.Given as goal

abbrev pub invariant-loop-value : goal.invariant-loop-value
invariant-loop-value l = integers_ahead l.integers.items l.left ≡ integers_of_values l.fn.values

abbrev pub decreases-loop-value : goal.decreases-loop-value
decreases-loop-value l = length l.left
