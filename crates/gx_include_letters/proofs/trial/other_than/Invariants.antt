use Rattle.std.proofs.Common.{◌≡◌, ◌<◌, ℕ, true}
use Rattle.gx_include_positions.specs.Names.{is_named}
use Rattle.gx_include_letters.specs.Trials.{other_name}
use Rattle.gx_include_letters.proofs.trial.other_than.Given as goal

abbrev pub invariant-loop-number : goal.invariant-loop-number
invariant-loop-number l = (k : ℕ) → k < l.number → is_named l.names.keys (other_name k) ≡ true
