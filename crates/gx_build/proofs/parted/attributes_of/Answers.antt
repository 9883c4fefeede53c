use Rattle.std.proofs.Common.{◌∷◌, [], ◌++◌, take, sym, ap, ◌∙◌}
use Rattle.gx_nodes.specs.Rows.{attributes_among}
use Rattle.gx_build.proofs.FrontLemmas.{among_more, taken}
use Rattle.gx_build.proofs.parted.attributes_of.Goals as goal

pub loop-tree-preserved : goal.loop-tree-preserved
loop-tree-preserved c =
    let front = take c.loop-tree.tree-index c.args.trees.now in
    c.in_ok-push_attribute.ensures
    ∙ ap (λ l. l ++ attributes_among (c.tree-item.result ∷ [])) c.loop-tree.invariant
    ∙ sym (among_more front (c.tree-item.result ∷ []))
    ∙ ap attributes_among (sym (taken c.args.trees.now c.loop-tree.tree-index c.tree-item.result c.loop-tree-test.true c.tree-item.is))
