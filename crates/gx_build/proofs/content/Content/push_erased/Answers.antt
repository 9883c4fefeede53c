use Rattle.std.proofs.Common.{◌≡◌, List, ◌++◌, sym, ap, ◌∙◌, subst}
use Rattle.std.specs.Prelude.{OnOk}
use Rattle.gx_tree.specs.PlainTree.{PlainTree}
use Rattle.gx_tree.specs.TreeView.{plain_tree_of}
use Rattle.gx_build.specs.Making.{content_seen}
use Rattle.gx_build.proofs.ContentLemmas.{document_gives, other_gives}
use Rattle.gx_build.proofs.content.Content.push_erased.Goals as goal

pub returns-in-Document : goal.returns-in-Document
returns-in-Document c rest =
    let put = rw c.in-Document.children-is at (c.push_nodes.ensures rest) in
    subst (λ (ts : List PlainTree). OnOk c.push_nodes.result (content_seen c.push_nodes.new.self rest ≡ content_seen c.args.self.now (ts ++ rest)))
    (document_gives c.in-Document.children.items c.args.tree (ap plain_tree_of (sym c.in-Document.is) ∙ c.tree.view_is)) put

pub returns-in_default : goal.returns-in_default
returns-in_default c rest =
    subst (λ (ts : List PlainTree). OnOk c.push_node.result (content_seen c.push_node.new.self rest ≡ content_seen c.args.self.now (ts ++ rest)))
    (other_gives c.tree.inside.node c.args.tree c.in_default.not-Document c.tree.view_is) (c.push_node.ensures rest)
