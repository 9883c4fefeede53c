use Rattle.std.proofs.Common.{length}
use Rattle.gx_include_takes.proofs.PlaceSets.{AreLedTo}
use Rattle.gx_include_takes.proofs.following.places_coming.Given as goal

-- the places behind the members in the blocks before this one
abbrev pub invariant-loop-block : goal.invariant-loop-block
invariant-loop-block l = AreLedTo l.rows l.places (length l.mask) l.after.items l.block
