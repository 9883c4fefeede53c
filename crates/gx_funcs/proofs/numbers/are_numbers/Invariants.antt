use Rattle.std.proofs.Common.{◌≡◌, length}
use Rattle.std.specs.Prelude.{is_some}
use Rattle.gx_funcs.specs.Numbers.{numbers_of_values}
use Rattle.gx_funcs.proofs.numbers.are_numbers.Given as goal

abbrev pub invariant-loop-value : goal.invariant-loop-value
invariant-loop-value l = is_some (numbers_of_values l.left) ≡ is_some (numbers_of_values l.fn.values)

abbrev pub decreases-loop-value : goal.decreases-loop-value
decreases-loop-value l = length l.left
