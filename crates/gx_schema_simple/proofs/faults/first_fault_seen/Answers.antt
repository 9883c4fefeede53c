use Rattle.std.proofs.Common.{◌≡◌, Option, refl, ◌∙◌, subst}
use Rattle.std.specs.Prelude.{IfOk}
use Rattle.gx_schema_simple.specs.Faults.{Seen, faults_from, first_type_fault}
use Rattle.gx_schema_simple.specs.declared.faults.Fault.{Fault}
use Rattle.gx_schema_simple.specs.declared.faults.Look.{Look}
use Rattle.gx_schema_simple.proofs.FaultLemmas.{looks_right}
use Rattle.gx_schema_simple.proofs.faults.first_fault_seen.Goals as goal

pub returns : goal.returns
returns c =
    let types = c.args.forms.now in
    let look : Look = record { forms = c.args.forms; marks = c.args.marks; varieties = c.args.varieties; bases = c.as_slice.result; own = c.as_slice-2.result } in
    subst (λ (seen : Seen). IfOk c.first_noted.result (λ (fault : Option Fault). fault ≡ first_type_fault (faults_from types seen 0 types)))
    (looks_right types look refl c.requires.marks c.requires.varieties (c.as_slice.ensures.value ∙ c.in_ok-bases.ensures) (c.as_slice-2.ensures.value ∙ c.in_ok-own.ensures))
    c.first_noted.ensures
