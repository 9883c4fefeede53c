use Rattle.std.proofs.Common.{sym, ◌∙◌}
use Rattle.gx_static.proofs.BooleanTypes.{item_is_boolean, optional_is_boolean}
use Rattle.gx_static.proofs.call.is_one_truth.Goals as goal

pub returns-in-Item : goal.returns-in-Item
returns-in-Item c = λ h.
    rw (← c.t.view_is, c.in-Item.is, ← c.deref.ensures)
    (item_is_boolean c.args.schemas.now c.deref.result.now c.types-types.ensures.invariant.grounded (sym c.has_effective_boolean.ensures ∙ h))

pub returns-in-Item-node : goal.returns-in-Item-node
returns-in-Item-node c = λ h.
    rw (← c.t.view_is, c.in-Optional.is, ← c.deref-in-Optional.ensures, ← c.behind-part.view_is, c.in-Item-node.is, ← c.deref-in-Item-node.ensures)
    (optional_is_boolean c.args.schemas.now c.deref-in-Item-node.result.now c.types-types.ensures.invariant.grounded (sym c.has_effective_boolean-in-Item-node.ensures ∙ h))
