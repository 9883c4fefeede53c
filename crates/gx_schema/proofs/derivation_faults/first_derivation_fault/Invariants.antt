use Rattle.std.proofs.Common.{◌≡◌, drop}
use Rattle.gx_schema.specs.DerivationFaults.{first_derivation_fault}
use Rattle.gx_schema.proofs.derivation_faults.first_derivation_fault.Given as goal

-- the first of those from a number on
abbrev pub invariant-loop-number : goal.invariant-loop-number
invariant-loop-number l = l.first ≡ first_derivation_fault l.forms l.number (drop l.number l.types)
