use Rattle.std.proofs.Common.{◌≡◌, ◌-◌, ◌+◌, ℕ, suc, List, arith, ap, sym, ◌∙◌}
use Rattle.gx_store.specs.Items.{items_in}
use Rattle.gx_machine.specs.declared.bound.Bound.{Bound}
use Rattle.gx_machine.specs.BoundItems.{bounds_in}
use Rattle.gx_machine.specs.Resume.{between_marks}
use Rattle.gx_machine.proofs.MadeTrees.{one_taken, none_left, all_taken}
use Rattle.gx_machine.proofs.frames.take_arguments.Goals as goal

pub loop-preserved : goal.loop-preserved
loop-preserved c = record {
  within = omega (arith, c.loop-test.true);
  taken = λ later next.
      let n : ℕ = c.args.count - c.loop.counter in
      let m : ℕ = c.args.count - (c.loop.counter + 1) in
      let one : n ≡ suc m = omega (arith, c.loop-test.true) in
      ap (λ (arguments : List Bound). between_marks m c.pop.new.self (items_in later c.take_bound.new.values.items) (bounds_in later arguments) next) c.in_ok-push.ensures.ok
      ∙ one_taken n m c.loop.marks c.in-Some.mark c.pop.new.self (items_in later c.loop.values.items) (items_in later c.take_bound.new.values.items) _
      (bounds_in later c.loop.arguments) next one c.in-Some.ensures (c.in_ok-take_bound.ensures.front later) (c.in_ok-take_bound.ensures.bound later)
      ∙ c.loop.invariant.taken later next;
}

pub returns-in_default-clause-failed : goal.returns-in_default-clause-failed
returns-in_default-clause-failed c = λ later next.
    let n : ℕ = c.args.count - c.loop.counter in
    let m : ℕ = c.args.count - (c.loop.counter + 1) in
    let one : n ≡ suc m = omega (arith, c.loop-test.true) in
    sym (c.loop.invariant.taken later next)
    ∙ none_left n m c.loop.marks (items_in later c.loop.values.items) (bounds_in later c.loop.arguments) next one c.in_default.ensures.0

pub returns-clause-taken : goal.returns-clause-taken
returns-clause-taken c = λ later next.
    let n : ℕ = c.args.count - c.loop.counter in
    let none : n ≡ 0 = omega (arith, c.loop-test.false) in
    sym (c.loop.invariant.taken later next)
    ∙ all_taken n c.loop.marks (items_in later c.loop.values.items) (bounds_in later c.loop.arguments) next none
