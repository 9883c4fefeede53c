use Rattle.std.proofs.Common.{◌≡◌, Bool, List, [], Some, ap, ◌∙◌, subst}
use Rattle.gx_tree.specs.PlainTree.{PlainTree}
use Rattle.gx_store.specs.Items.{items_in}
use Rattle.gx_core.specs.Constructing.{content_after}
use Rattle.gx_build.specs.Making.{content_with, content_if}
use Rattle.gx_build.proofs.ContentLemmas.{nothing_done, alone_joined}
use Rattle.gx_build.proofs.content.content_of_items.Goals as goal

pub returns-then-not-branch : goal.returns-then-not-branch
returns-then-not-branch c =
    let found = content_after c.args.store.now [] (items_in c.args.store.now c.args.items.now) in
    subst (λ (b : Bool). content_if b c.push_part.new.self [] ≡ content_with c.new-content.result found []) c.if-not-branch.true (c.in_ok-push_part.ensures [])
    ∙ nothing_done c.new-content.result found c.new-content.ensures []
    ∙ alone_joined found

pub returns : goal.returns
returns c =
    let found = content_after c.args.store.now [] (items_in c.args.store.now c.args.items.now) in
    ap (λ (ts : List PlainTree). Some ts) c.in_ok-finish.ensures
    ∙ subst (λ (b : Bool). content_if b c.push_part.new.self [] ≡ content_with c.new-content.result found []) c.if-not-branch.false (c.in_ok-push_part.ensures [])
    ∙ nothing_done c.new-content.result found c.new-content.ensures []
    ∙ alone_joined found
