use Rattle.std.proofs.Common.{◌≡◌, length}
use Rattle.gx_schema_syntax.specs.Profile.{outside_files}
use Rattle.gx_schema_syntax.proofs.profile.check_files.Given as goal

-- what is left decides
abbrev pub invariant-loop-file : goal.invariant-loop-file
invariant-loop-file l = outside_files l.number l.left ≡ outside_files 0 l.fn.files

abbrev pub decreases-loop-file : goal.decreases-loop-file
decreases-loop-file l = length l.left
