use Rattle.std.proofs.Common.{◌≡◌, ◌++◌, map, length}
use Rattle.std.specs.Str.{encode_utf8_all}
use Rattle.gx_documents.specs.BindingView.{word_bytes}
use Rattle.gx_processor.proofs.imports.add_locations.Given as goal

-- the names so far, and those that are left
abbrev pub invariant-loop-location : goal.invariant-loop-location
invariant-loop-location l = word_bytes l.files.items ++ map encode_utf8_all l.left ≡ word_bytes l.fn.files.items ++ map encode_utf8_all l.fn.locations

abbrev pub decreases-loop-location : goal.decreases-loop-location
decreases-loop-location l = length l.left
