use Rattle.gx_references.specs.Known.{known}
use Rattle.gx_schema_content.specs.Knots.{IsListBelow}
use Rattle.gx_schema_content.specs.TypeContents.{unknown_content}
use Rattle.gx_schema_content.proofs.contents.contents_of.Given as goal

abbrev pub invariant-loop-number : goal.invariant-loop-number
invariant-loop-number l = IsListBelow l.number (known unknown_content l.table) l.contents.items
