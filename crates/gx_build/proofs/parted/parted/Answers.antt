use Rattle.std.proofs.Common.{ℕ, List, take, drop, ap, ◌∙◌}
use Rattle.gx_tree.specs.PlainTree.{PlainTree}
use Rattle.gx_nodes.specs.Rows.{attributes_among}
use Rattle.gx_build.proofs.FrontLemmas.{count_front, leading_are, behind_are}
use Rattle.gx_build.proofs.parted.parted.Goals as goal

pub returns-clause-attributes : goal.returns-clause-attributes
returns-clause-attributes c =
    let content : List PlainTree = c.args.content.items in
    c.in_ok-attributes.ensures
    ∙ ap attributes_among c.as_slice-2.ensures.value
    ∙ ap attributes_among c.in_ok-children.ensures.items
    ∙ ap (λ (n : ℕ). attributes_among (take n content)) (count_front c.as_slice.result.now content c.count_of_attributes-count.result c.count_of_attributes-count.ensures.count c.as_slice.ensures.value)
    ∙ leading_are content

pub returns-clause-children : goal.returns-clause-children
returns-clause-children c =
    let content : List PlainTree = c.args.content.items in
    c.in_ok-children.ensures.tail
    ∙ ap (λ (n : ℕ). drop n content) (count_front c.as_slice.result.now content c.count_of_attributes-count.result c.count_of_attributes-count.ensures.count c.as_slice.ensures.value)
    ∙ behind_are content
