use Rattle.std.proofs.Common.{◌≡◌, length}
use Rattle.std.specs.List.{flat_map}
use Rattle.gx_schema_components.specs.Mentions.{member_mentions}
use Rattle.gx_schema_components.specs.NamesView.{number_in_tables}
use Rattle.gx_schema_components.specs.Unknown.{with_unknown}
use Rattle.gx_schema_components.proofs.mentions.note_members.Given as goal

-- what was found, and what is left
abbrev pub invariant-loop-member : goal.invariant-loop-member
invariant-loop-member l = with_unknown (number_in_tables l.numbers) l.found (flat_map member_mentions l.left) ≡ with_unknown (number_in_tables l.numbers) l.fn.found (flat_map member_mentions l.fn.members)

abbrev pub decreases-loop-member : goal.decreases-loop-member
decreases-loop-member l = length l.left
