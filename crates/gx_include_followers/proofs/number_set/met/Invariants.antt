use Rattle.std.proofs.Common.{◌≡◌, take, filter}
use Rattle.std.specs.Prelude.{slice_index_or, false}
use Rattle.gx_include_followers.proofs.number_set.met.Given as goal

-- those of the numbers so far
abbrev pub invariant-loop-number : goal.invariant-loop-number
invariant-loop-number l = l.met.items ≡ filter (λ n. slice_index_or l.other n false) (take l.number-index l.numbers)
