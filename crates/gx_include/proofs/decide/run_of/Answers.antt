use Rattle.gx_include.proofs.Verdicts.{origin_before, letter_before}
use Rattle.gx_include.proofs.decide.run_of.Goals as goal

pub loop-at-preserved : goal.loop-at-preserved
loop-at-preserved c = record {
  within = origin_before c.args.origins.now c.requires.runs.0 c.loop-at.at _ c.requires.runs.1 c.loop-at-test.true c.loop-at.invariant.within;
  so_far = λ runs are.
      letter_before c.args.origins.now runs c.loop-at.at _ c.loop-at.run.items c.push.new.self.items _ are c.loop-at-test.true c.loop-at.invariant.within
      c.in_ok-push.ensures.items (c.loop-at.invariant.so_far runs are);
}
