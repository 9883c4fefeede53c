use Rattle.std.proofs.Common.{ℕ, ◌+◌, sym, ◌∙◌, ap, arith}
use Rattle.gx_include.specs.Outcome.{exceeds}
use Rattle.gx_include.proofs.Outcomes.{judge_next, stay_judged, none_below, walked_none, settled}
use Rattle.gx_include.proofs.walk.walk.Goals as goal

pub loop-at-init : goal.loop-at-init
loop-at-init c = record {
  walked = walked_none c.args.left.now c.args.right.now c.args.letters.now c.args.limit c.args.pairs.now.keys c.args.origins.now.items c.requires.pairs c.requires.origins;
  bad = none_below c.args.left.now c.args.right.now c.args.pairs.now.keys;
}

pub returns-then-ends_early : goal.returns-then-ends_early
returns-then-ends_early c =
    settled c.args.left.now c.args.right.now c.args.letters.now c.args.limit c.in_ok-bad.bad c.loop-at.pairs.keys c.loop-at.origins.items c.loop-at.at c.outcome_of.result
    (sym c.if-ends_early.true ∙ c.ends_early.ensures) c.outcome_of.ensures c.loop-at.invariant.walked
    (judge_next c.args.left.now c.args.right.now c.loop-at.pairs.keys c.loop-at.at c.index.result.now c.loop-at.bad c.in_ok-bad.bad c.index.ensures c.in_ok-bad.ensures c.loop-at.invariant.bad)

pub loop-at-preserved : goal.loop-at-preserved
loop-at-preserved c = record {
  walked = record { traced = c.in_ok-expand.ensures.traced; short = λ _. ap (λ (n : ℕ). exceeds c.args.limit n) (sym c.len-in-loop-at.ensures.len) ∙ sym c.is_past.ensures ∙ c.if-is_past.false };
  bad =
      stay_judged c.args.left.now c.args.right.now c.loop-at.pairs.keys c.expand.new.pairs.keys (c.loop-at.at + 1) c.in_ok-bad.bad c.in_ok-expand.ensures.kept (omega arith)
      (judge_next c.args.left.now c.args.right.now c.loop-at.pairs.keys c.loop-at.at c.index.result.now c.loop-at.bad c.in_ok-bad.bad c.index.ensures c.in_ok-bad.ensures c.loop-at.invariant.bad);
}
