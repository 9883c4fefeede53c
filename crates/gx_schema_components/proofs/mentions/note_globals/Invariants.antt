use Rattle.std.proofs.Common.{◌≡◌, length}
use Rattle.std.specs.List.{flat_map}
use Rattle.gx_schema_components.specs.Mentions.{global_mentions}
use Rattle.gx_schema_components.specs.NamesView.{number_in_tables}
use Rattle.gx_schema_components.specs.Unknown.{with_unknown}
use Rattle.gx_schema_components.proofs.mentions.note_globals.Given as goal

-- what was found, and what is left
abbrev pub invariant-loop-declaration : goal.invariant-loop-declaration
invariant-loop-declaration l = with_unknown (number_in_tables l.numbers) l.found (flat_map global_mentions l.left) ≡ with_unknown (number_in_tables l.numbers) l.fn.found (flat_map global_mentions l.fn.declarations)

abbrev pub decreases-loop-declaration : goal.decreases-loop-declaration
decreases-loop-declaration l = length l.left
