use Rattle.std.proofs.Common.{Option, ap}
use Rattle.gx_model.specs.Item.{Items}
use Rattle.gx_core.specs.Outcome.{gives, given}
use Rattle.gx_store.specs.Items.{items_in}
use Rattle.gx_machine.specs.BoundItems.{hand_items}
use Rattle.gx_machine.specs.Resume.{context_with, items_of}
use Rattle.gx_machine.proofs.AtHand.{if_found}
use Rattle.gx_machine.proofs.LaterItems.{found_items}
use Rattle.gx_machine.proofs.hand.value_at_hand.Goals as goal

pub returns-in-Some : goal.returns-in-Some
returns-in-Some c = λ calls later x.
    rw (← c.expression.view_is, c.in-Var.is)
    (ap (λ (o : Option Items). given o (λ xs. gives xs c.args.store.now))
    (found_items later c.args.scope.now c.in-Var.number c.in-Some.bound.now (items_in later c.as_slice.result.now) c.in-Some.ensures (c.as_slice.ensures later)))

pub returns-in-Step : goal.returns-in-Step
returns-in-Step c = λ calls later x.
    rw (← c.expression.view_is, c.in-Step.is) (c.step_at_hand.ensures later x)

pub returns-in-Some-step_path : goal.returns-in-Some-step_path
returns-in-Some-step_path c = λ calls later x.
    rw (← c.expression.view_is, c.in-Order.is, ← c.deref.ensures)
    (if_found c.step_at_hand-in-Some-step_path.result (c.step_at_hand-in-Some-step_path.ensures later x)
    (λ hand e. c.in-Some-step_path.ensures (context_with c.args.schemas.now calls) (items_of later c.args.scope.now) c.args.store.now (hand_items later hand) e))
