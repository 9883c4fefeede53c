use Rattle.std.proofs.Common.{◌+◌, ◌*◌, ◌^◌}
use Rattle.gx_include_takes.specs.Following.{AreFollowing}
use Rattle.gx_include_takes.proofs.following.add_place.Given as goal

abbrev pub invariant-loop-members : goal.invariant-loop-members
invariant-loop-members l = AreFollowing l.t (l.block * 16 + 2 ^ l.bit + l.members) l.rows.items
