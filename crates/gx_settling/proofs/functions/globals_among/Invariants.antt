use Rattle.std.proofs.Common.{◌≡◌, ◌++◌, length}
use Rattle.std.specs.List.{filter}
use Rattle.gx_core.specs.Invariant.{is_among}
use Rattle.gx_settling.specs.Gathering.{numbers_in_scope}
use Rattle.gx_settling.proofs.functions.globals_among.Given as goal

-- those found and those among the rest are those among all
abbrev pub invariant-loop-number : goal.invariant-loop-number
invariant-loop-number l = record {
  among : l.numbers.items ++ filter (is_among (numbers_in_scope l.fn.globals)) l.left ≡ filter (is_among (numbers_in_scope l.fn.globals)) l.fn.variables;
}

abbrev pub decreases-loop-number : goal.decreases-loop-number
decreases-loop-number l = length l.left
