use Rattle.std.proofs.Common.{◌+◌, ◌*◌, ◌-◌, ◌<◌, List, ◌++◌, length, arith, refl, sym, ap, ◌∙◌, subst}
use Rattle.gx_tree.specs.PlainTree.{tree_size}
use Rattle.gx_nodes.specs.Rows.{tree_rows}
use Rattle.gx_store.specs.declared.load.Opened.{Opened}
use Rattle.gx_store.specs.Opened.{rows_to_come, AreWithin, size_left}
use Rattle.gx_store.proofs.OpenedLemmas.{on_ok, nothing_left, closed_comes, comes_as, child_goes_on, next_within, size_child}
use Rattle.gx_store.proofs.load.go_on.Goals as goal

pub close-requires : goal.close-requires
close-requires c = c.requires.0

pub returns-in_default-clause-comes : goal.returns-in_default-clause-comes
returns-in_default-clause-comes c plain s =
    on_ok c.close.result (λ e. closed_comes c.args.labels.now.labels.keys c.args.rows.now.items c.close.new.rows.items c.args.opened.now c.args.node plain s c.requires (nothing_left c.args.node.left.now c.in_default.ensures.cases) e) c.close.ensures

pub overflow_sub-up : goal.overflow_sub-up
overflow_sub-up c = omega (arith, c.requires.0, c.len.ensures)

pub returns-clause-comes : goal.returns-clause-comes
returns-clause-comes c plain s =
    let next : Opened = record { at = c.args.node.at; left = c.in-Some.left } in
    on_ok c.open.result
    (λ h. comes_as c.open.new.labels.labels.keys c.open.new.rows.items c.open.new.opened _ _
    (ap (rows_to_come (plain ++ tree_rows (c.len.result - c.args.node.at) c.in-Some.child.now)) c.in_ok-push.ensures.ok
    ∙ child_goes_on c.args.labels.now.labels.keys c.args.rows.now.items c.args.opened.now c.args.node next plain (c.len.result - c.args.node.at) c.in-Some.child.now s c.requires refl c.in-Some.ensures.cases.0 (omega (arith, c.len.ensures))) h)
    (c.open.ensures.comes plain s (subst (AreWithin (length c.args.rows.now.items)) (sym c.in_ok-push.ensures.ok) (next_within (length c.args.rows.now.items) c.args.opened.now c.args.node next refl c.requires)))

pub returns-clause-less : goal.returns-clause-less
returns-clause-less c =
    let next : Opened = record { at = c.args.node.at; left = c.in-Some.left } in
    on_ok c.open.result
    (λ h. size_child c.args.opened.now c.open.new.opened c.args.node next c.in-Some.child.now c.in-Some.ensures.cases.0
    (subst (λ (os : List Opened). size_left c.open.new.opened < size_left os + 2 * tree_size c.in-Some.child.now) c.in_ok-push.ensures.ok h)) c.open.ensures.less
