use Rattle.std.proofs.Common.{◌≡◌, take}
use Rattle.gx_references.specs.Known.{known}
use Rattle.gx_schema_content.specs.GroupPositions.{counted, positions_together}
use Rattle.gx_schema_content.proofs.group_positions.positions_together.Given as goal

abbrev pub invariant-loop-particle : goal.invariant-loop-particle
invariant-loop-particle l = l.total ≡ counted (positions_together (known 0 l.table) (take l.particle-index l.particles))
