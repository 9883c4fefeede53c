use Rattle.std.proofs.Common.{◌≡◌, ◌++◌, ◌+◌, drop, pos}
use Rattle.gx_funcs.specs.Distinct.{positions_from, equal_positions}
use Rattle.gx_funcs.proofs.distinct.equal_positions.Given as goal

abbrev pub invariant-loop-index : goal.invariant-loop-index
invariant-loop-index l = l.positions.items ++ positions_from (pos (l.index + 1)) l.searched (drop l.index l.values) ≡ equal_positions l.searched l.values
