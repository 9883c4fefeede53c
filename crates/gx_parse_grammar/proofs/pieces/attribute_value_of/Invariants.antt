use Rattle.std.proofs.Common.{◌≡◌, []}
use Rattle.gx_parse_grammar.specs.Pieces.{value_from}
use Rattle.gx_parse_grammar.proofs.pieces.attribute_value_of.Given as goal

abbrev pub invariant-loop-piece : goal.invariant-loop-piece
invariant-loop-piece l = (l.value.parts.items, l.value.text) ≡ value_from ([], []) l.yielded
