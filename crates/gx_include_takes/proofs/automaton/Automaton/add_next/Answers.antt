use Rattle.std.proofs.Common.{rules}
use Rattle.gx_include_takes.proofs.KnownSteps.{added_step, more_states, same_targets, one_more}
use Rattle.gx_include_takes.proofs.automaton.Automaton.add_next.Goals as goal

pub returns-in_err-next-clause-kept : goal.returns-in_err-next-clause-kept
returns-in_err-next-clause-kept c =
    more_states c.args.schemas.now c.args.t.now c.args.self.now.states.keys c.number_of.new.states.keys c.args.self.now.targets c.requires.kept c.number_of.ensures.states c.number_of.ensures.alike

pub returns-in_err-insert-clause-kept : goal.returns-in_err-insert-clause-kept
returns-in_err-insert-clause-kept c =
    let s = c.args.schemas.now in
    let t = c.args.t.now in
    same_targets s t c.number_of.new.states.keys c.args.self.now.targets c.insert.new.self c.in_err-insert.ensures.err
    (more_states s t c.args.self.now.states.keys c.number_of.new.states.keys c.args.self.now.targets c.requires.kept c.number_of.ensures.states c.number_of.ensures.alike)

pub returns-clause-kept : goal.returns-clause-kept
returns-clause-kept c =
    let s = c.args.schemas.now in
    let t = c.args.t.now in
    let states = c.args.self.now.states.keys in
    let more = c.number_of.new.states.keys in
    one_more s t more c.args.self.now.targets c.insert.new.self c.args.key c.in_ok-next.next
    (more_states s t states more c.args.self.now.targets c.requires.kept c.number_of.ensures.states c.number_of.ensures.alike)
    (added_step s t states more c.args.key c.in_ok-next.next c.args.shape.now c.index.result.now c.as_slice-set.result.now c.in_ok-set.set.items c.number_of.ensures.alike c.index.ensures
    c.as_slice-set.ensures.value c.requires.shape c.in_ok-set.ensures c.in_ok-next.ensures.within c.in_ok-next.ensures.number)
    (λ other. search rules)
