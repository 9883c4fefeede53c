use Rattle.std.proofs.Common.{◌∙◌}
use Rattle.gx_schema_simple.specs.Faults.{faults_from, first_type_fault}
use Rattle.gx_schema_simple.specs.Looks.{seen_by}
use Rattle.gx_schema_simple.proofs.FaultLemmas.{noted_at_end, noted_type_at}
use Rattle.gx_schema_simple.proofs.faults.first_noted.Goals as goal

pub loop-number-preserved : goal.loop-number-preserved
loop-number-preserved c =
    let types = c.args.look.now.forms.now in
    noted_type_at types (seen_by c.args.look.now) c.loop-number.number c.form-item.result c.loop-number.best c.note_type.new.best c.loop-number-test.true c.form-item.is c.in_ok-note_type.ensures
    ∙ c.loop-number.invariant

pub returns : goal.returns
returns c =
    let types = c.args.look.now.forms.now in
    noted_at_end types (seen_by c.args.look.now) c.loop-number.number c.loop-number.best (first_type_fault (faults_from types (seen_by c.args.look.now) 0 types)) c.loop-number-test.false c.loop-number.invariant
