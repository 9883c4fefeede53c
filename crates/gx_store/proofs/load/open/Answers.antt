use Rattle.std.proofs.Common.{arith, sym, ap, ◌∙◌}
use Rattle.gx_tree.specs.PlainTree.{text, trees_of}
use Rattle.gx_tree.specs.TreeView.{plain_tree_of}
use Rattle.gx_store.proofs.LoadLemmas.{grows_not}
use Rattle.gx_store.proofs.OpenedLemmas.{on_ok, document_opened, element_opened, lone_put_down, text_added, attribute_put_down, size_document, size_element, size_lone}
use Rattle.gx_store.proofs.load.open.Goals as goal

pub returns-in_ok-push_row-in-Document-clause-comes : goal.returns-in_ok-push_row-in-Document-clause-comes
returns-in_ok-push_row-in-Document-clause-comes c plain s w =
    on_ok c.push.result (λ n. document_opened c.args.labels.now.labels.keys c.args.rows.now.items c.push_row.new.rows.items c.args.opened.now c.push.new.self _ plain c.args.up c.args.tree.now (trees_of c.in-Document.children.items)
    s w c.in_ok-push_row-in-Document.ensures n (omega (arith, c.len-at.ensures)) (ap trees_of c.as_slice.ensures.value) (sym c.tree.view_is ∙ ap plain_tree_of c.in-Document.is)) c.push.ensures.ok

pub returns-in_ok-push_row-in-Document-clause-less : goal.returns-in_ok-push_row-in-Document-clause-less
returns-in_ok-push_row-in-Document-clause-less c =
    on_ok c.push.result (λ n. size_document c.args.opened.now c.push.new.self _ c.args.tree.now (trees_of c.in-Document.children.items) n (ap trees_of c.as_slice.ensures.value) (sym c.tree.view_is ∙ ap plain_tree_of c.in-Document.is)) c.push.ensures.ok

pub returns-in_ok-push_element-in-Element-clause-comes : goal.returns-in_ok-push_element-in-Element-clause-comes
returns-in_ok-push_element-in-Element-clause-comes c plain s w =
    on_ok c.push-in-Element.result (λ n. element_opened c.args.labels.now.labels.keys c.push_element.new.labels.labels.keys c.args.rows.now.items c.push_element.new.rows.items c.args.opened.now c.push-in-Element.new.self _ plain c.args.up c.args.tree.now
    c.in-Element.name c.in-Element.kind c.in-Element.attributes.items (trees_of c.in-Element.children.items) s w c.in_ok-push_element-in-Element.ensures.grows c.in_ok-push_element-in-Element.ensures.added n (omega (arith, c.len-at.ensures))
    (ap trees_of c.as_slice-in-Element.ensures.value) (sym c.tree.view_is ∙ ap plain_tree_of c.in-Element.is)) c.push-in-Element.ensures.ok

pub returns-in_ok-push_element-in-Element-clause-less : goal.returns-in_ok-push_element-in-Element-clause-less
returns-in_ok-push_element-in-Element-clause-less c =
    on_ok c.push-in-Element.result (λ n. size_element c.args.opened.now c.push-in-Element.new.self _ c.args.tree.now c.in-Element.name c.in-Element.kind c.in-Element.attributes.items (trees_of c.in-Element.children.items) n
    (ap trees_of c.as_slice-in-Element.ensures.value) (sym c.tree.view_is ∙ ap plain_tree_of c.in-Element.is)) c.push-in-Element.ensures.ok

pub returns-in-Attribute-clause-comes : goal.returns-in-Attribute-clause-comes
returns-in-Attribute-clause-comes c plain s w =
    on_ok c.push_attribute.result (λ x. lone_put_down c.args.labels.now.labels.keys c.push_attribute.new.labels.labels.keys c.args.rows.now.items c.push_attribute.new.rows.items c.args.opened.now plain c.args.up c.args.tree.now s w c.push_attribute.ensures.grows
    (attribute_put_down c.push_attribute.new.labels.labels.keys c.args.rows.now.items c.push_attribute.new.rows.items c.args.up c.args.tree.now c.in-Attribute.attribute x (sym c.tree.view_is ∙ ap plain_tree_of c.in-Attribute.is))) c.push_attribute.ensures.added

pub returns-in-Attribute-clause-less : goal.returns-in-Attribute-clause-less
returns-in-Attribute-clause-less c = on_ok c.push_attribute.result (λ x. size_lone c.args.opened.now c.args.tree.now) c.push_attribute.ensures.added

pub returns-in_ok-clone-in-Text-clause-comes : goal.returns-in_ok-clone-in-Text-clause-comes
returns-in_ok-clone-in-Text-clause-comes c plain s w =
    on_ok c.push_row-in-Text.result (λ x. lone_put_down c.args.labels.now.labels.keys c.args.labels.now.labels.keys c.args.rows.now.items c.push_row-in-Text.new.rows.items c.args.opened.now plain c.args.up c.args.tree.now s w (grows_not c.args.labels.now.labels.keys)
    (text_added c.args.labels.now.labels.keys c.args.rows.now.items c.push_row-in-Text.new.rows.items c.args.up c.args.tree.now _ x (sym c.tree.view_is ∙ ap plain_tree_of c.in-Text.is ∙ ap text (sym c.in_ok-clone-in-Text.ensures.cases)))) c.push_row-in-Text.ensures

pub returns-in_ok-clone-in-Text-clause-less : goal.returns-in_ok-clone-in-Text-clause-less
returns-in_ok-clone-in-Text-clause-less c = on_ok c.push_row-in-Text.result (λ x. size_lone c.args.opened.now c.args.tree.now) c.push_row-in-Text.ensures
