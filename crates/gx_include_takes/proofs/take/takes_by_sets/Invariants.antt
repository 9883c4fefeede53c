use Rattle.std.proofs.Common.{◌↔◌, drop}
use Rattle.gx_types.specs.Takes.{Takes}
use Rattle.gx_include_positions.proofs.SetReads.{Reads}
use Rattle.gx_include_takes.proofs.take.takes_by_sets.Given as goal

-- the set reads what is left exactly where the type takes the list
abbrev pub invariant-loop-shape : goal.invariant-loop-shape
invariant-loop-shape l = Reads l.schemas l.t l.set.items (drop l.shape-index l.list) ↔ Takes l.schemas l.t l.list
