use Rattle.std.proofs.Common.{◌≡◌, length}
use Rattle.gx_schema_components.specs.NamesView.{number_in_tables}
use Rattle.gx_schema_components.specs.Unknown.{unknown_from}
use Rattle.gx_schema_components.proofs.unknown.unknown_among.Given as goal

-- what is left decides
abbrev pub invariant-loop-document : goal.invariant-loop-document
invariant-loop-document l = unknown_from (number_in_tables l.numbers) l.file l.left ≡ unknown_from (number_in_tables l.numbers) 0 l.fn.documents

abbrev pub decreases-loop-document : goal.decreases-loop-document
decreases-loop-document l = length l.left
