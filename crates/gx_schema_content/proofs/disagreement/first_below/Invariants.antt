use Rattle.std.proofs.Common.{◌≡◌, []}
use Rattle.gx_references.specs.Known.{known}
use Rattle.gx_schema_content.specs.Disagreement.{first_disagreement_below}
use Rattle.gx_schema_content.proofs.disagreement.first_below.Given as goal

abbrev pub invariant-loop-number : goal.invariant-loop-number
invariant-loop-number l = l.found ≡ first_disagreement_below (known [] l.table) l.number
