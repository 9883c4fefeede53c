use Rattle.std.proofs.Common.{List, [], sym, ap, ◌∙◌, map-id, rules}
use Rattle.std.proofs.lemmas.Iterator.Adapters.{YieldsList-from_vec}
use Rattle.std.proofs.lemmas.Iterator.Consumers.{YieldsList-end}
use Rattle.gx_ast.specs.declared.expression.Part.{Part}
use Rattle.gx_parse_grammar.specs.declared.pieces.Pending.{Pending}
use Rattle.gx_parse_grammar.specs.declared.pieces.Pending.TheVariants.{Nothing}
use Rattle.gx_parse_grammar.specs.Pieces.{content_behind}
use Rattle.gx_parse_grammar.proofs.PieceLemmas.{content_more, content_done}
use Rattle.gx_parse_grammar.proofs.pieces.content_of_pieces.Goals as goal

pub loop-piece-preserved : goal.loop-piece-preserved
loop-piece-preserved c =
    c.in_ok-push.ensures ∙ ap (λ (made : List Part × Pending). content_behind made c.in-Some.piece) c.loop-piece.invariant ∙ sym (content_more ([], Nothing) c.loop-piece.yielded c.in-Some.piece)

pub returns : goal.returns
returns c =
    let end = YieldsList-end (YieldsList-from_vec {s = c.into_iter-piece-iterator.result} c.args.pieces.items (search rules) (search rules))
    c.loop-piece.yielded c.loop-piece.piece-iterator c.loop-piece.yielded_by c.next.result c.next.new.self c.in-None.is c.next.ensures.steps in
    content_done c.flush.new.self.parts.items c.loop-piece.content.parts.items c.loop-piece.content.pending c.loop-piece.yielded c.args.pieces.items c.in_ok-flush.ensures.parts c.loop-piece.invariant (sym (map-id c.loop-piece.yielded) ∙ end.0)
