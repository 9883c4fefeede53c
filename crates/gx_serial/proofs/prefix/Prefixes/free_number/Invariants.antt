use Rattle.std.proofs.Common.{◌+◌, ◌-◌}
use Rattle.gx_serial.specs.View.{all_prefixes, IsSearchStart}
use Rattle.gx_serial.proofs.prefix.Prefixes.free_number.Given as goal

abbrev pub invariant-loop-number : goal.invariant-loop-number
invariant-loop-number l = IsSearchStart (all_prefixes l.self) l.number

abbrev pub decreases-loop-number : goal.decreases-loop-number
decreases-loop-number l = l.most + 1 - l.number
