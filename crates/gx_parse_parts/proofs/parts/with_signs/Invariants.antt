use Rattle.std.proofs.Common.{length}
use Rattle.gx_ast.specs.SyntaxTree.{SyntaxTree}
use Rattle.gx_grammar.specs.Ran.{Standing, Makes}
use Rattle.gx_parse_parts.specs.Parsing.{wrapped}
use Rattle.gx_parse_parts.proofs.parts.with_signs.Given as goal

abbrev pub invariant-loop-sign : goal.invariant-loop-sign
invariant-loop-sign l = (w : SyntaxTree) (z : Standing) → Makes w (wrapped l.signs.items l.tree) l.reader z → Makes w (wrapped l.fn.signs.items l.fn.operand) l.fn.reader z

abbrev pub decreases-loop-sign : goal.decreases-loop-sign
decreases-loop-sign l = length l.signs.items
