use Rattle.std.proofs.Common.{◌*◌}
use Rattle.gx_include_takes.specs.Following.{AreFollowing}
use Rattle.gx_include_takes.proofs.following.following.Given as goal

abbrev pub invariant-loop-block : goal.invariant-loop-block
invariant-loop-block l = AreFollowing l.t (l.block * 16) l.rows.items
