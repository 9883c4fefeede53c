use Rattle.std.proofs.Common.{◌≡◌, []}
use Rattle.gx_parse_grammar.specs.declared.pieces.Pending.TheVariants.{Nothing}
use Rattle.gx_parse_grammar.specs.Pieces.{content_from}
use Rattle.gx_parse_grammar.proofs.pieces.content_of_pieces.Given as goal

abbrev pub invariant-loop-piece : goal.invariant-loop-piece
invariant-loop-piece l = (l.content.parts.items, l.content.pending) ≡ content_from ([], Nothing) l.yielded
