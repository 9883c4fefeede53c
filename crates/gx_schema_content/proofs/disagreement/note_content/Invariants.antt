use Rattle.std.proofs.Common.{◌≡◌, take}
use Rattle.std.specs.Prelude.{fold}
use Rattle.gx_schema_content.specs.Disagreement.{or_disagreement}
use Rattle.gx_schema_content.proofs.disagreement.note_content.Given as goal

abbrev pub invariant-loop-shared : goal.invariant-loop-shared
invariant-loop-shared l = l.found ≡ fold (or_disagreement l.elements) l.initial.found (take l.shared-index l.elements)
