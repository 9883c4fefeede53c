use Rattle.std.proofs.Common.{◌≡◌, length}
use Rattle.gx_schema.specs.Found.{file_behind, file_of_place}
use Rattle.gx_schema.proofs.found.file_of_place.Given as goal

abbrev pub invariant-loop-document : goal.invariant-loop-document
invariant-loop-document l = file_behind l.so_far l.file l.place l.left ≡ file_of_place l.place l.documents

abbrev pub decreases-loop-document : goal.decreases-loop-document
decreases-loop-document l = length l.left
