use Rattle.std.proofs.Common.{sym, subst}
use Rattle.gx_ast.specs.SyntaxTree.{at, signed}
use Rattle.gx_grammar.specs.Ran.{Makes}
use Rattle.gx_parse_grammar.specs.Nodes.{is_minus}
use Rattle.gx_parse_parts.specs.Parsing.{wrapped}
use Rattle.gx_parse_parts.proofs.Phrases.{wrapped_more, makes_kept}
use Rattle.gx_parse_parts.proofs.parts.with_signs.Goals as goal

pub loop-sign-preserved : goal.loop-sign-preserved
loop-sign-preserved c = λ w z h.
    let here = c.loop-sign.reader in
    let wanted = at c.in-Some.sign.place (signed (is_minus c.in-Some.sign.word) c.loop-sign.tree) in
    let kept = makes_kept (wrapped c.pop.new.self.items) c.keep-tree.result wanted c.signed-made.result w here c.keep-tree.new.reader z c.signed-made.ensures c.keep-tree.ensures h in
    let more = subst (λ u. Makes w u here z) (sym (wrapped_more c.pop.new.self.items c.in-Some.sign c.loop-sign.tree)) kept in
    c.loop-sign.invariant w z (subst (λ xs. Makes w (wrapped xs c.loop-sign.tree) here z) (sym c.in-Some.ensures.items) more)
