use Rattle.std.proofs.Common.{rules, arith, ◌≡◌, ◌∙◌, sym, ap, Some, None, reverse, length, ◌<◌}
use Rattle.std.specs.Prelude.{get_or}
use Rattle.gx_core.specs.Bindings.{look_up}
use Rattle.gx_core.specs.Slots.{bound_pairs}
use Rattle.gx_core.proofs.SlotLemmas.{is_not_bound, is_there, is_bound_there}
use Rattle.gx_core.proofs.scope.Scope.find.Goals as goal

pub returns-in_err-slot : goal.returns-in_err-slot
returns-in_err-slot g c =
    let none : look_up (bound_pairs (reverse c.self.inside.bindings.items)) c.args.variable ≡ None =
    is_not_bound (reverse c.self.inside.bindings.items) c.args.variable
    (sym (c.self.invariant.found c.args.variable) ∙ sym c.in_err-slot.ensures) in
    search (rules, arith)

pub index-requires : goal.index-requires
index-requires g c =
    let there : c.in_ok-slot.slot < length c.self.inside.bindings.items =
    is_there c.self.inside.bindings.items c.args.variable c.in_ok-slot.slot
    (sym (c.self.invariant.found c.args.variable) ∙ sym c.in_ok-slot.ensures) in
    search (rules, arith)

pub returns : goal.returns
returns g c =
    let bound : look_up (bound_pairs (reverse c.self.inside.bindings.items)) c.args.variable ≡ Some
    ((get_or c.self.inside.bindings.items c.in_ok-slot.slot c.index.result.now).bound) =
    is_bound_there c.self.inside.bindings.items c.args.variable c.in_ok-slot.slot c.index.result.now
    (sym (c.self.invariant.found c.args.variable) ∙ sym c.in_ok-slot.ensures) in
    ap (λ b. Some b.bound) c.index.ensures ∙ sym bound ∙ ap (λ scope. look_up scope c.args.variable) c.self.view_is
