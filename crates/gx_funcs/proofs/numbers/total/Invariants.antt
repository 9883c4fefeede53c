use Rattle.std.proofs.Common.{◌≡◌, length}
use Rattle.std.specs.Prelude.{option_map}
use Rattle.gx_funcs.specs.Numbers.{numbers_of_values, summed, total}
use Rattle.gx_funcs.proofs.numbers.total.Given as goal

abbrev pub invariant-loop-value : goal.invariant-loop-value
invariant-loop-value l = option_map (summed l.sum) (numbers_of_values l.left) ≡ option_map total (numbers_of_values l.fn.values)

abbrev pub decreases-loop-value : goal.decreases-loop-value
decreases-loop-value l = length l.left
