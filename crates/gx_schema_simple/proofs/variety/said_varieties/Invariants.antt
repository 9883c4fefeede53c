use Rattle.std.proofs.Common.{◌≡◌, ◌++◌, drop}
use Rattle.gx_schema_simple.specs.Varieties.{said_from, said_varieties}
use Rattle.gx_schema_simple.proofs.variety.said_varieties.Given as goal

abbrev pub invariant-loop-number : goal.invariant-loop-number
invariant-loop-number l = l.said.items ++ said_from l.forms l.number (drop l.number l.forms) ≡ said_varieties l.forms
