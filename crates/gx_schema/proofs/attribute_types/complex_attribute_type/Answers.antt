use Rattle.std.proofs.Common.{◌≡◌, Option, IfOk, subst}
use Rattle.gx_schema.specs.declared.found.Found.{Found}
use Rattle.gx_schema.proofs.SameComplexTypes.{complex_by_table}
use Rattle.gx_schema.proofs.attribute_types.complex_attribute_type.Goals as goal

pub returns : goal.returns
returns c =
    let P : Option Found → Type 0 = λ answer. IfOk c.first_complex.result (λ found. found ≡ answer) in
    subst P (complex_by_table c.args.documents.now c.in_ok-table.table c.in_ok-table.ensures) c.first_complex.ensures
