use Rattle.std.proofs.Common.{◌≡◌, false, map, take}
use Rattle.std.specs.List.{list_any}
use Rattle.gx_include_followers.specs.Rows.{end_row, said_of}
use Rattle.gx_include_followers.proofs.followers.ends_at_one.Given as goal

-- at none of the members so far
abbrev pub invariant-loop-place : goal.invariant-loop-place
invariant-loop-place l = list_any (said_of l.nullable (map end_row l.rows) false) (take l.place-index l.members) ≡ false
