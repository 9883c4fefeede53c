use Rattle.std.proofs.Common.{◌∷◌, refl, sym, ap, ◌∙◌}
use Rattle.gx_tree.specs.PlainTree.{PlainTree}
use Rattle.gx_tree.specs.TreeView.{plain_tree_of}
use Rattle.gx_build.specs.Making.{content_seen}
use Rattle.gx_build.proofs.ContentLemmas.{text_put}
use Rattle.gx_build.proofs.content.Content.push_node.Goals as goal

pub returns-in-Text : goal.returns-in-Text
returns-in-Text c rest =
    text_put c.args.self.now (record { alloc = c.args.self.now.alloc; trees = c.args.self.now.trees; pending = c.push_text.new.self }) c.in-Text.text refl c.in_ok-push_text.ensures.ok rest
    ∙ ap (λ (t : PlainTree). content_seen c.args.self.now (t ∷ rest)) (ap plain_tree_of (sym c.in-Text.is) ∙ c.tree.view_is)
