use Rattle.std.proofs.Common.{sym, ◌∙◌}
use Rattle.gx_store.proofs.TreeLemmas.{one_alone, several, second_there, second_none}
use Rattle.gx_store.proofs.store.Store.only_label.Goals as goal

pub returns-then-is_some : goal.returns-then-is_some
returns-then-is_some c =
    let second = second_there c.next.new.self c.next-2.new.self c.next-2.result c.next-2.ensures.steps (sym c.is_some.ensures ∙ c.if-is_some.true) in
    several c.args.self.now c.args.number c.children_of-children.result c.next.new.self c.next-2.new.self c.in-Some.child second.0 c.requires c.children_of-children.ensures c.in-Some.ensures.steps second.1

pub returns : goal.returns
returns c =
    c.element_label.ensures
    ∙ one_alone c.args.self.now c.args.number c.children_of-children.result c.next.new.self c.in-Some.child c.requires c.children_of-children.ensures c.in-Some.ensures.steps
    (second_none c.next.new.self c.next-2.new.self c.next-2.result c.next-2.ensures.steps (sym c.is_some.ensures ∙ c.if-is_some.false))
