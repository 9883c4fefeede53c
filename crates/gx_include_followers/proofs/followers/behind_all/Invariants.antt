use Rattle.std.proofs.Common.{◌≡◌, [], map, take}
use Rattle.std.specs.List.{flat_map}
use Rattle.gx_include_followers.specs.Rope.{numbers_of}
use Rattle.gx_include_followers.specs.Rows.{behind_row, said_of}
use Rattle.gx_include_followers.proofs.followers.behind_all.Given as goal

-- those behind the members so far
abbrev pub invariant-loop-place : goal.invariant-loop-place
invariant-loop-place l = l.numbers.items ≡ flat_map (said_of (numbers_of l.firsts) (map behind_row l.rows) []) (take l.place-index l.members)
