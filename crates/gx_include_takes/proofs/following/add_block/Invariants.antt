use Rattle.std.proofs.Common.{◌+◌, ◌*◌, ◌^◌}
use Rattle.gx_include_takes.specs.Following.{AreFollowing}
use Rattle.gx_include_takes.proofs.following.add_block.Given as goal

-- the rows of the block are there that have only places before this one
abbrev pub invariant-loop-bit : goal.invariant-loop-bit
invariant-loop-bit l = AreFollowing l.t (l.block * 16 + 2 ^ l.bit) l.rows.items
