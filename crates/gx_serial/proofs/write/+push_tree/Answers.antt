use Rattle.std.proofs.Common.{take, ap, sym, ◌∙◌, arith, nat_eq}
use Rattle.gx_tree.proofs.TreesLemmas.{item_le-trees_size}
use Rattle.gx_serial.proofs.WriteLemmas.{content_text}
use Rattle.gx_serial.proofs.write.+push_tree.Goals as goal

pub push_trees-push_tree-requires : goal.push_trees-push_tree-requires
push_trees-push_tree-requires t c =
    let smaller = item_le-trees_size c.args.trees.now.items c.loop-tree.tree-index c.tree-item.result
    (rw c.deref-tree-items.ensures.value at c.loop-tree-test.true) (rw c.deref-tree-items.ensures.value at c.tree-item.is) in
    (omega (arith, smaller), tt)

pub push_element-returns-clause-scope : goal.push_element-returns-clause-scope
push_element-returns-clause-scope t c =
    c.truncate.ensures
    ∙ ap (take c.len-outer.result) c.in_ok-push_content.ensures.scope
    ∙ ap (λ n. take n c.push_start.new.scope) c.len-outer.ensures.len
    ∙ c.in_ok-push_start.ensures.kept

pub push_content-returns-clause-text : goal.push_content-returns-clause-text
push_content-returns-clause-text t c =
    content_text c.args.children.now.items c.args.scope.now c.args.name.now.prefix c.args.name.now.local
    c.args.out.now c.push.new.self c.push_trees.new.out c.push_end.new.out (ap (λ n. nat_eq n 0) (sym c.args.children.now.ok.0) ∙ sym c.is_empty.ensures ∙ c.if-is_empty.false)
    c.in_ok-push.ensures.ok c.in_ok-push_trees.ensures.text c.in_ok-push_end.ensures
