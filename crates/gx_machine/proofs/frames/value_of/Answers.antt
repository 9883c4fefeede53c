use Rattle.std.proofs.Common.{List, ap, sym, ◌∙◌}
use Rattle.std.proofs.lemmas.Result.{err_from_is_err_and}
use Rattle.gx_core.specs.Outcome.{gives}
use Rattle.gx_store.specs.declared.item.Item.{Item}
use Rattle.gx_store.specs.Items.{items_in}
use Rattle.gx_machine.proofs.MadeTrees.{stays_as_it_is, grows_on, step_extends, through}
use Rattle.gx_machine.proofs.Resuming.{fails_also}
use Rattle.gx_machine.proofs.frames.value_of.Goals as goal

pub loop-init : goal.loop-init
loop-init g c = record {
  grows = stays_as_it_is c.args.schemas.now c.args.store.now;
  same = λ later x. c.in_ok-active.ensures c.args.schemas.now c.args.store.now later;
}

pub loop-preserved : goal.loop-preserved
loop-preserved g c = record {
  grows = grows_on c.args.schemas.now c.args.store.now c.loop.store c.advance.new.store c.loop.invariant.grows c.in_ok-advance.ensures.grows;
  same = λ later x.
      c.in_ok-advance.ensures.same later x
      ∙ c.loop.invariant.same later (through c.loop.store c.advance.new.store later (step_extends c.args.schemas.now c.loop.store c.advance.new.store c.in_ok-advance.ensures.grows) x);
}

pub returns-in_err-advance-clause-grows : goal.returns-in_err-advance-clause-grows
returns-in_err-advance-clause-grows g c =
    grows_on c.args.schemas.now c.args.store.now c.loop.store c.advance.new.store c.loop.invariant.grows c.in_err-advance.ensures.grows

pub returns-in_err-advance-clause-failed : goal.returns-in_err-advance-clause-failed
returns-in_err-advance-clause-failed g c = λ later x.
    let p = err_from_is_err_and c.from_residual-in_err-advance.result c.from_residual-in_err-advance.ensures.1 in
    let y = through c.loop.store c.advance.new.store later (step_extends c.args.schemas.now c.loop.store c.advance.new.store c.in_err-advance.ensures.grows) x in
    rw (p.1, p.2) (fails_also _ _ _ (sym (c.loop.invariant.same later y)) (c.in_err-advance.ensures.failed later x))

pub returns-then-not-branch-clause-grows : goal.returns-then-not-branch-clause-grows
returns-then-not-branch-clause-grows g c =
    grows_on c.args.schemas.now c.args.store.now c.loop.store c.advance.new.store c.loop.invariant.grows c.in_ok-advance.ensures.grows

pub returns-then-not-branch-clause-value : goal.returns-then-not-branch-clause-value
returns-then-not-branch-clause-value g c = λ later x.
    let y = through c.loop.store c.advance.new.store later (step_extends c.args.schemas.now c.loop.store c.advance.new.store c.in_ok-advance.ensures.grows) x in
    sym (c.loop.invariant.same later y)
    ∙ sym (c.in_ok-advance.ensures.same later x)
    ∙ c.in_ok-advance.ensures.ended later c.if-not-branch.true
    ∙ ap (λ (items : List Item). gives (items_in later items) c.advance.new.store) (sym c.values_of.ensures)
