use Rattle.std.proofs.Common.{◌≡◌, ℕ, ◌+◌, ◌-◌, ◌^◌, ◌≤◌, length}
use Rattle.gx_closure.specs.Closure.{after_turns}
use Rattle.gx_closure.proofs.close.close.Given as goal

-- the values before this place had their turns
abbrev pub invariant-loop-at : goal.invariant-loop-at
invariant-loop-at g l = record {
  turns : (more : ℕ) → after_turns g.T.PartialEq.eq (g.S.Step.next l.initial.step) (l.at + more) 0 l.initial.found.keys ≡ after_turns g.T.PartialEq.eq (g.S.Step.next l.initial.step) more l.at l.found.keys;
  within : l.at ≤ length l.found.keys;
  fits : g.S.Step.fits l.step l.found.keys;
  same : g.S.Step.next l.step ≡ g.S.Step.next l.initial.step;
}

abbrev pub decreases-loop-at : goal.decreases-loop-at
decreases-loop-at g l = 2 ^ 64 - l.at
