use Rattle.std.proofs.Common.{◌≡◌, drop}
use Rattle.gx_references.specs.Numbers.{first_from}
use Rattle.gx_schema.specs.Doubled.{doubled_from, doubled_declared_name}
use Rattle.gx_schema.proofs.doubled.doubled_declared_name.Given as goal

-- what is left decides
abbrev pub invariant-loop-number : goal.invariant-loop-number
invariant-loop-number l = doubled_from (first_from 0 l.names) l.number (drop l.number l.names) ≡ doubled_declared_name l.names
