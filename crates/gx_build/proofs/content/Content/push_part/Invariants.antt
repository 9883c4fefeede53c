use Rattle.std.proofs.Common.{◌≡◌, List, [], drop}
use Rattle.gx_tree.specs.PlainTree.{PlainTree}
use Rattle.gx_store.specs.Items.{items_in}
use Rattle.gx_core.specs.Constructing.{content_after}
use Rattle.gx_build.specs.Making.{content_with, items_content}
use Rattle.gx_build.proofs.content.Content.push_part.Given as goal

-- what the content comes to with what the items give that are left
abbrev pub invariant-loop-item : goal.invariant-loop-item
invariant-loop-item l =
    (rest : List PlainTree) → content_with l.self (items_content l.behind_value l.store (drop l.item-index l.part)) rest ≡ content_with l.fn.self (content_after l.store [] (items_in l.store l.part)) rest
