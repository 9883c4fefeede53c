use Rattle.std.proofs.Common.{rules, sym, subst, inl, inr}
use Rattle.gx_include_takes.specs.Transitions.{AreTransitions, AreMasks}
use Rattle.gx_include_takes.proofs.Targets.{anew_kept, no_masks, kept_more}
use Rattle.gx_include_takes.proofs.transitions.Transitions.add_next.Goals as goal

pub add_masks-requires : goal.add_masks-requires
add_masks-requires c =
    let t = c.args.t.now in
    let s = c.args.schemas.now in
    elim c.in_ok-state.ensures [
      | inl p ↦ subst (λ k. AreMasks t s k.masks) (sym p.1) c.requires.masks
      | inr p ↦ no_masks t s _ c.make_room.new.self.states.keys c.make_room.new.self.targets c.make_room.new.self.masks p.1
    ]

pub returns-clause-kept : goal.returns-clause-kept
returns-clause-kept c =
    let rows = c.args.rows.now in
    let t = c.args.t.now in
    let s = c.args.schemas.now in
    let room : AreTransitions t rows s c.make_room.new.self.states.keys c.make_room.new.self.targets = elim c.in_ok-state.ensures [
      | inl p ↦ subst (λ k. AreTransitions t rows s k.states.keys k.targets) (sym p.1) c.requires.kept
      | inr p ↦ anew_kept t rows s _ c.make_room.new.self.states.keys c.make_room.new.self.targets c.make_room.new.self.masks p.1
    ] in
    kept_more t rows s c.make_room.new.self.states.keys c.number_of.new.states.keys c.make_room.new.self.targets c.insert.new.self
    (record { state = c.in_ok-state.state; symbol = c.args.symbol }) c.in_ok-next.next c.in_ok-places.places.items room c.in_ok-next.ensures.kept (search rules) c.in_ok-next.ensures.within
    c.in_ok-next.ensures.number c.in_ok-places.ensures
    (λ other. search rules)
