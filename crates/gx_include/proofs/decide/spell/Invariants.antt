use Rattle.std.proofs.Common.{◌≡◌, ◌++◌, ℕ, List, vec_len}
use Rattle.gx_include.specs.Runs.{shapes_of}
use Rattle.gx_include.proofs.decide.spell.Given as goal

abbrev pub invariant-loop-number : goal.invariant-loop-number
invariant-loop-number l = (done : List ℕ) × (l.initial.pending.items ≡ l.pending.items ++ done) × (l.list.items ≡ shapes_of l.letters done)

abbrev pub decreases-loop-number : goal.decreases-loop-number
decreases-loop-number l = vec_len l.pending
