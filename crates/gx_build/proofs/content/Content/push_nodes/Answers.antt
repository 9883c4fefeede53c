use Rattle.std.proofs.Common.{List, ◌++◌, sym, ap, ◌∙◌}
use Rattle.std.proofs.lemmas.List.{nil_from_length}
use Rattle.gx_tree.specs.PlainTree.{PlainTree}
use Rattle.gx_build.specs.Making.{content_seen}
use Rattle.gx_build.proofs.content.Content.push_nodes.Goals as goal

pub loop-tree-preserved : goal.loop-tree-preserved
loop-tree-preserved c rest =
    c.in_ok-push_node.ensures (c.next.new.self.rest.items ++ rest)
    ∙ ap (λ (ts : List PlainTree). content_seen c.loop-tree.self (ts ++ rest)) (sym c.in-Some.ensures.steps.0)
    ∙ c.loop-tree.invariant rest

pub returns : goal.returns
returns c rest =
    let left = c.loop-tree.tree-iterator.rest in
    ap (λ (ts : List PlainTree). content_seen c.loop-tree.self (ts ++ rest)) (sym (nil_from_length left.items (sym left.ok.0 ∙ c.in-None.ensures.steps.0)))
    ∙ c.loop-tree.invariant rest
