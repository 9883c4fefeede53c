use Rattle.std.proofs.Common.{◌≡◌, List, filter, ap, ◌∙◌, subst}
use Rattle.std.specs.Prelude.{IfOk, option_to_list}
use Rattle.gx_model.specs.Forest.{PlainNode}
use Rattle.gx_nodes.specs.Entries.{place_of_number}
use Rattle.gx_store.specs.Places.{node_places, passes_on}
use Rattle.gx_store.proofs.StepLemmas.{children_step, attributes_step, self_step, parent_step, descendants_step, with_descendants_step, ancestors_step, with_ancestors_step, option_places}
use Rattle.gx_store.proofs.store.Store.on_axis.Goals as goal

pub returns-in-Child : goal.returns-in-Child
returns-in-Child c later x =
    let f = c.args.self.now in
    let from = place_of_number later c.args.node.number in
    subst (λ (ns : List PlainNode). IfOk c.among.result (λ found. node_places later found.items ≡ ns))
    (ap (filter (passes_on c.args.schemas.now f c.args.axis c.args.test.now)) (c.children.ensures later x) ∙ children_step c.args.schemas.now f from c.args.axis c.args.test.now c.in-Child.is)
    (c.among.ensures later x)

pub returns-in-Attribute : goal.returns-in-Attribute
returns-in-Attribute c later x =
    let f = c.args.self.now in
    let from = place_of_number later c.args.node.number in
    subst (λ (ns : List PlainNode). IfOk c.among-in-Attribute.result (λ found. node_places later found.items ≡ ns))
    (ap (filter (passes_on c.args.schemas.now f c.args.axis c.args.test.now)) (c.attributes.ensures later x) ∙ attributes_step c.args.schemas.now f from c.args.axis c.args.test.now c.in-Attribute.is)
    (c.among-in-Attribute.ensures later x)

pub returns-in-Descendant : goal.returns-in-Descendant
returns-in-Descendant c later x =
    let f = c.args.self.now in
    let from = place_of_number later c.args.node.number in
    subst (λ (ns : List PlainNode). IfOk c.among-in-Descendant.result (λ found. node_places later found.items ≡ ns))
    (ap (filter (passes_on c.args.schemas.now f c.args.axis c.args.test.now)) (c.descendants.ensures later x) ∙ descendants_step c.args.schemas.now f from c.args.axis c.args.test.now c.in-Descendant.is)
    (c.among-in-Descendant.ensures later x)

pub returns-in-DescendantOrSelf : goal.returns-in-DescendantOrSelf
returns-in-DescendantOrSelf c later x =
    let from = place_of_number later c.args.node.number in
    subst (λ (ns : List PlainNode). IfOk c.with_descendants.result (λ found. node_places later found.items ≡ ns))
    (with_descendants_step c.args.schemas.now c.args.self.now from c.args.axis c.args.test.now c.in-DescendantOrSelf.is)
    (c.with_descendants.ensures later x)

pub returns-in-SelfAxis : goal.returns-in-SelfAxis
returns-in-SelfAxis c later x =
    let from = place_of_number later c.args.node.number in
    subst (λ (ns : List PlainNode). IfOk c.if_passing.result (λ found. node_places later found.items ≡ ns))
    (self_step c.args.schemas.now c.args.self.now from c.args.axis c.args.test.now c.in-SelfAxis.is)
    (c.if_passing.ensures later x)

pub returns-in-Parent : goal.returns-in-Parent
returns-in-Parent c later x =
    let f = c.args.self.now in
    subst (λ (ns : List PlainNode). IfOk c.if_passing-in-Parent.result (λ found. node_places later found.items ≡ ns))
    (ap (filter (passes_on c.args.schemas.now f c.args.axis c.args.test.now)) (option_places later c.parent.result ∙ ap option_to_list (c.parent.ensures.parent later x))
    ∙ parent_step c.args.schemas.now f later c.args.node.number c.args.axis c.args.test.now c.in-Parent.is x)
    (c.if_passing-in-Parent.ensures later x)

pub returns-in-Ancestor : goal.returns-in-Ancestor
returns-in-Ancestor c later x =
    subst (λ (ns : List PlainNode). IfOk c.passing_ancestors.result (λ found. node_places later found.items ≡ ns))
    (ancestors_step c.args.schemas.now c.args.self.now later c.args.node.number c.args.axis c.args.test.now c.in-Ancestor.is x)
    (c.passing_ancestors.ensures later x)

pub returns-in-AncestorOrSelf : goal.returns-in-AncestorOrSelf
returns-in-AncestorOrSelf c later x =
    subst (λ (ns : List PlainNode). IfOk c.with_ancestors.result (λ found. node_places later found.items ≡ ns))
    (with_ancestors_step c.args.schemas.now c.args.self.now later c.args.node.number c.args.axis c.args.test.now c.in-AncestorOrSelf.is x)
    (c.with_ancestors.ensures later x)
