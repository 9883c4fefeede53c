use Rattle.std.proofs.Common.{◌≡◌, drop}
use Rattle.gx_schema_content.specs.Extensions.{first_differing_from}
use Rattle.gx_schema_content.specs.KnownView.{known_by}
use Rattle.gx_schema_content.specs.OutlinedExtensions.{outlined_definition_differs}
use Rattle.gx_schema_content.proofs.extensions.first_differing.Given as goal

-- the first of those from a number on
abbrev pub invariant-loop-number : goal.invariant-loop-number
invariant-loop-number l = l.first ≡ first_differing_from (outlined_definition_differs (known_by l.tables)) l.number (drop l.number l.types)
