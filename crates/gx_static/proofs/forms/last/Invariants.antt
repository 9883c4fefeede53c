use Rattle.std.proofs.Common.{◌≡◌, ◌++◌, length}
use Rattle.gx_static.proofs.forms.last.Given as goal

-- what has been taken, the last part first, stood on the parts
abbrev pub invariant-loop : goal.invariant-loop
invariant-loop l = record {
  taken : l.taken.items ++ l.parts ≡ l.fn.parts;
  number : length l.taken.items ≡ l.counter;
}
