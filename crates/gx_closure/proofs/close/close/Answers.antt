use Rattle.std.proofs.Common.{◌∙◌, arith}
use Rattle.std.specs.List.{slice_get}
use Rattle.gx_closure.specs.Closure.{successors_of}
use Rattle.gx_closure.proofs.Closures.{one_more_turn, still_within, all_had_turns}
use Rattle.gx_closure.proofs.close.close.Goals as goal

pub loop-at-preserved : goal.loop-at-preserved
loop-at-preserved g c = record {
  turns = λ more.
      one_more_turn g.T.PartialEq.eq (g.S.Step.next c.args.step.now) c.loop-at.at more c.args.found.now.keys c.loop-at.found.keys c.add_next.new.found.keys (g.S.Step.next c.loop-at.step)
      c.loop-at.invariant.same c.loop-at.invariant.turns c.in_ok-add_next.ensures.added;
  within =
      still_within g.T.PartialEq.eq (g.S.Step.next c.loop-at.step) c.loop-at.at c.loop-at.found.keys c.add_next.new.found.keys (successors_of (g.S.Step.next c.loop-at.step) (slice_get c.loop-at.found.keys c.loop-at.at))
      (omega arith) c.in_ok-add_next.ensures.added;
  fits = c.in_ok-add_next.ensures.fits;
  same = c.in_ok-add_next.ensures.same ∙ c.loop-at.invariant.same;
}

pub returns : goal.returns
returns g c = all_had_turns g.T.PartialEq.eq (g.S.Step.next c.args.step.now) c.loop-at.at c.args.found.now.keys c.loop-at.found.keys c.loop-at.invariant.within (omega arith) c.loop-at.invariant.turns
