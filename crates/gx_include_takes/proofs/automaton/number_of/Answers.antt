use Rattle.std.proofs.Common.{◌≡◌, sym, ◌∙◌, ap, subst, List, Bool}
use Rattle.gx_include_takes.specs.Automaton.{state_set, AreStates, KeepTheirNumbers}
use Rattle.gx_include_positions.specs.Step.{is_end}
use Rattle.gx_include_takes.proofs.KnownSteps.{inserted_are, inserted_alike, equal_sets}
use Rattle.gx_include_takes.proofs.automaton.number_of.Goals as goal

pub returns-clause-states : goal.returns-clause-states
returns-clause-states c =
    let state = c.state_of.result in
    let ends : state.ends ≡ is_end c.args.t.now state.set.items = c.state_of.ensures.ends ∙ ap (λ (set : List Bool). is_end c.args.t.now set) (sym (ap (λ v. v.items) c.state_of.ensures.set)) in
    subst (AreStates c.args.t.now) (sym c.in_ok-number.ensures.keys) (inserted_are c.args.t.now c.args.states.now.keys state ends c.requires)

pub returns-clause-alike : goal.returns-clause-alike
returns-clause-alike c = subst (KeepTheirNumbers c.args.states.now.keys) (sym c.in_ok-number.ensures.keys) (inserted_alike c.args.states.now.keys c.state_of.result)

pub returns-clause-number : goal.returns-clause-number
returns-clause-number c =
    let stored = c.in_ok-number.ensures.stored in
    ap state_set stored.1 ∙ equal_sets c.state_of.result stored.0 stored.2 ∙ ap (λ v. v.items) c.state_of.ensures.set
