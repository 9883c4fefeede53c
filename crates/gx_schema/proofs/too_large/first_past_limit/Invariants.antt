use Rattle.std.proofs.Common.{◌≡◌, ◌-◌}
use Rattle.gx_schema.specs.FirstNumber.{first_number}
use Rattle.gx_schema.specs.MeaningsView.{is_past_limit}
use Rattle.gx_schema.proofs.too_large.first_past_limit.Given as goal

abbrev pub invariant-loop-number : goal.invariant-loop-number
invariant-loop-number l = first_number (is_past_limit l.contents l.positions) l.number (l.count - l.number) ≡ first_number (is_past_limit l.contents l.positions) 0 l.count
