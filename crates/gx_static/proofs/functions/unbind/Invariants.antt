use Rattle.std.proofs.Common.{◌≡◌, drop}
use Rattle.gx_static.proofs.functions.unbind.Given as goal

-- so many bindings have been taken away
abbrev pub invariant-loop : goal.invariant-loop
invariant-loop l = l.scope ≡ drop l.counter l.fn.scope
