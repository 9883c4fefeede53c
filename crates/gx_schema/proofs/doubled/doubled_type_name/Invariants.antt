use Rattle.std.proofs.Common.{◌≡◌, drop}
use Rattle.gx_schema.specs.Doubled.{doubled_from, doubled_type_name}
use Rattle.gx_schema.specs.TypeNumbers.{own_type_number}
use Rattle.gx_schema.proofs.doubled.doubled_type_name.Given as goal

-- what is left decides
abbrev pub invariant-loop-number : goal.invariant-loop-number
invariant-loop-number l = doubled_from (own_type_number l.names) l.number (drop l.number l.names) ≡ doubled_type_name l.names
