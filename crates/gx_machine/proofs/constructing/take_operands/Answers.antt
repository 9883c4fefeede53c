use Rattle.std.proofs.Common.{◌≡◌, ◌-◌, ◌+◌, ℕ, suc, List, arith, ap, sym, ◌∙◌}
use Rattle.std.specs.Global.{Global}
use Rattle.std.specs.Prelude.{Vec}
use Rattle.gx_store.specs.declared.item.Item.{Item}
use Rattle.gx_store.specs.Items.{items_in}
use Rattle.gx_build.specs.Parts.{parts_in}
use Rattle.gx_machine.specs.Resume.{between_marks}
use Rattle.gx_machine.proofs.MadeTrees.{one_taken, none_left, all_taken}
use Rattle.gx_machine.proofs.constructing.take_operands.Goals as goal

pub loop-preserved : goal.loop-preserved
loop-preserved c = record {
  within = omega (arith, c.loop-test.true);
  taken = λ later next.
      let n : ℕ = c.args.count - c.loop.counter in
      let m : ℕ = c.args.count - (c.loop.counter + 1) in
      let one : n ≡ suc m = omega (arith, c.loop-test.true) in
      ap (λ (operands : List (Vec Item Global)). between_marks m c.pop.new.self (items_in later c.split_at.new.values.items) (parts_in later operands) next) c.in_ok-push.ensures.ok
      ∙ one_taken n m c.loop.marks c.in-Some.mark c.pop.new.self (items_in later c.loop.values.items) (items_in later c.split_at.new.values.items) (items_in later c.in_ok-split_at.field-0.items)
      (parts_in later c.loop.operands) next one c.in-Some.ensures (c.in_ok-split_at.ensures.front later) (c.in_ok-split_at.ensures.rest later)
      ∙ c.loop.invariant.taken later next;
}

pub returns-in_default-clause-failed : goal.returns-in_default-clause-failed
returns-in_default-clause-failed c = λ later next.
    let n : ℕ = c.args.count - c.loop.counter in
    let m : ℕ = c.args.count - (c.loop.counter + 1) in
    let one : n ≡ suc m = omega (arith, c.loop-test.true) in
    sym (c.loop.invariant.taken later next)
    ∙ none_left n m c.loop.marks (items_in later c.loop.values.items) (parts_in later c.loop.operands) next one c.in_default.ensures.0

pub returns-clause-taken : goal.returns-clause-taken
returns-clause-taken c = λ later next.
    let n : ℕ = c.args.count - c.loop.counter in
    let none : n ≡ 0 = omega (arith, c.loop-test.false) in
    sym (c.loop.invariant.taken later next)
    ∙ all_taken n c.loop.marks (items_in later c.loop.values.items) (parts_in later c.loop.operands) next none
    ∙ ap (λ (operands : List (Vec Item Global)). next (parts_in later operands) c.loop.marks (items_in later c.loop.values.items)) (c.into_items-taken.ensures ∙ sym c.reverse.ensures.items)
