use Rattle.std.proofs.Common.{◌≡◌, ◌≤◌, length, arith, ◌∙◌}
use Rattle.std.proofs.lemmas.Bool.{leb-true, eqb-true}
use Rattle.std.proofs.lemmas.List.{length-map}
use Rattle.std.specs.List.{list_all}
use Rattle.gx_core.specs.Instances.{item_matches}
use Rattle.gx_store.specs.Items.{item_in, items_in}
use Rattle.gx_machine.proofs.Matching.{few_match, some_match, other_matches}
use Rattle.gx_machine.proofs.instances.is_instance.Goals as goal

pub returns-then-values-le1 : goal.returns-then-values-le1
returns-then-values-le1 c = λ later x.
    let few : length c.args.values.now ≤ 1 = first_of (omega arith, omega (arith, leb-true)) in
    rw (← c.kind.view_is, c.in-Optional.is, ← c.deref.ensures)
    (c.all_match.ensures later x
    ∙ few_match (length c.args.values.now) (length (items_in later c.args.values.now)) (list_all (item_matches c.args.schemas.now c.args.store.now c.deref.result.now) (items_in later c.args.values.now))
    (length-map c.args.values.now (item_in later)) few)

pub returns-in-Star : goal.returns-in-Star
returns-in-Star c = λ later x. rw (← c.kind.view_is, c.in-Star.is, ← c.deref-in-Star.ensures) (c.all_match-in-Star.ensures later x)

pub returns-then-values-ge1 : goal.returns-then-values-ge1
returns-then-values-ge1 c = λ later x.
    let some : 1 ≤ length c.args.values.now = first_of (omega arith, omega (arith, leb-true)) in
    rw (← c.kind.view_is, c.in-Plus.is, ← c.deref-then-values-ge1.ensures)
    (c.all_match-then-values-ge1.ensures later x
    ∙ some_match (length c.args.values.now) (length (items_in later c.args.values.now)) (list_all (item_matches c.args.schemas.now c.args.store.now c.deref-then-values-ge1.result.now) (items_in later c.args.values.now))
    (length-map c.args.values.now (item_in later)) some)

pub returns-then-values-eq1 : goal.returns-then-values-eq1
returns-then-values-eq1 c = λ later x.
    let one : length c.args.values.now ≡ 1 = first_of (omega arith, omega (arith, eqb-true)) in
    c.all_match-then-values-eq1.ensures later x
    ∙ other_matches c.args.schemas.now c.args.store.now c.kind.inside.node c.args.kind.now (items_in later c.args.values.now) (length c.args.values.now)
    c.in_default.not-Empty c.in_default.not-Optional c.in_default.not-Star c.in_default.not-Plus c.kind.view_is (length-map c.args.values.now (item_in later)) one
