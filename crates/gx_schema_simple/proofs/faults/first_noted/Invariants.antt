use Rattle.std.proofs.Common.{◌≡◌, drop}
use Rattle.gx_schema_simple.specs.Faults.{earlier_fault, first_type_fault, faults_from}
use Rattle.gx_schema_simple.specs.Looks.{seen_by}
use Rattle.gx_schema_simple.proofs.faults.first_noted.Given as goal

abbrev pub invariant-loop-number : goal.invariant-loop-number
invariant-loop-number l =
    earlier_fault l.best (first_type_fault (faults_from l.look.forms.now (seen_by l.look) l.number (drop l.number l.look.forms.now)))
    ≡ first_type_fault (faults_from l.look.forms.now (seen_by l.look) 0 l.look.forms.now)
