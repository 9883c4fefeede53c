use Rattle.std.proofs.Common.{◌≡◌, ◌++◌, false, length, string_bytes}
use Rattle.std.specs.Str.{chars}
use Rattle.gx_xml.specs.Characters.{spelled}
use Rattle.gx_xml.specs.Runs.{normalised}
use Rattle.gx_xml.proofs.value.push_normalised.Given as goal

abbrev pub invariant-loop-c : goal.invariant-loop-c
invariant-loop-c l = chars (string_bytes l.out) ++ normalised l.spaces l.behind_return (spelled l.left) ≡ chars (string_bytes l.fn.out) ++ normalised l.spaces false (spelled l.fn.run)

abbrev pub decreases-loop-c : goal.decreases-loop-c
decreases-loop-c l = length (spelled l.left)
