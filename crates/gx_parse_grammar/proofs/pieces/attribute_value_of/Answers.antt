use Rattle.std.proofs.Common.{ℕ, List, [], sym, ap, ◌∙◌, map-id, rules}
use Rattle.std.proofs.lemmas.Iterator.Adapters.{YieldsList-from_vec}
use Rattle.std.proofs.lemmas.Iterator.Consumers.{YieldsList-end}
use Rattle.gx_ast.specs.declared.expression.AttributePart.{AttributePart}
use Rattle.gx_parse_grammar.specs.Pieces.{value_behind}
use Rattle.gx_parse_grammar.proofs.PieceLemmas.{value_more, value_done}
use Rattle.gx_parse_grammar.proofs.pieces.attribute_value_of.Goals as goal

pub loop-piece-preserved : goal.loop-piece-preserved
loop-piece-preserved c =
    c.in_ok-push.ensures ∙ ap (λ (made : List AttributePart × List ℕ). value_behind made c.in-Some.piece) c.loop-piece.invariant ∙ sym (value_more ([], []) c.loop-piece.yielded c.in-Some.piece)

pub returns : goal.returns
returns c =
    let end = YieldsList-end (YieldsList-from_vec {s = c.into_iter-piece-iterator.result} c.args.pieces.items (search rules) (search rules))
    c.loop-piece.yielded c.loop-piece.piece-iterator c.loop-piece.yielded_by c.next.result c.next.new.self c.in-None.is c.next.ensures.steps in
    value_done c.flush.new.self.parts.items c.loop-piece.value.parts.items c.loop-piece.value.text c.loop-piece.yielded c.args.pieces.items c.in_ok-flush.ensures.parts c.loop-piece.invariant (sym (map-id c.loop-piece.yielded) ∙ end.0)
