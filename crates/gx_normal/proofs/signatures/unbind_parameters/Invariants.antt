use Rattle.std.proofs.Common.{◌≡◌, drop}
use Rattle.gx_normal.proofs.signatures.unbind_parameters.Given as goal

abbrev pub invariant-loop : goal.invariant-loop
invariant-loop l = l.outside ≡ drop l.counter l.fn.numbers
