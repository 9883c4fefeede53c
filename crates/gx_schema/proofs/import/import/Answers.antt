use Rattle.std.proofs.Common.{◌∙◌, IfOk}
use Rattle.std.specs.Prelude.{IfErr}
use Rattle.gx_schema.specs.Import.{Imported, IsRefusalTold, IsSchemaRefusal, declares}
use Rattle.gx_schema.proofs.Imports.{imported_where_judged, outside_is_told}
use Rattle.gx_schema.proofs.Refusals.{handed_on}
use Rattle.gx_schema.proofs.import.import.Goals as goal

pub returns-in_err-documents-clause-refused : goal.returns-in_err-documents-clause-refused
returns-in_err-documents-clause-refused c =
    handed_on c.from_residual.result _ (IsSchemaRefusal c.args.files.now) c.from_residual.ensures.1
    (outside_is_told c.args.files.now c.in_err-documents.field-0.0 c.in_err-documents.ensures.refused)

pub returns-clause-declared : goal.returns-clause-declared
returns-clause-declared c =
    imported_where_judged c.args.files.now c.as_slice.result.now c.in_ok-documents.ensures.inside (c.as_slice.ensures.value ∙ c.in_ok-documents.ensures.documents)
    (λ (Told : Imported → Type 0). IfOk c.judge.result (λ schemas. Told (declares schemas))) c.judge.ensures.declared

pub returns-clause-refused : goal.returns-clause-refused
returns-clause-refused c =
    imported_where_judged c.args.files.now c.as_slice.result.now c.in_ok-documents.ensures.inside (c.as_slice.ensures.value ∙ c.in_ok-documents.ensures.documents)
    (λ (Told : Imported → Type 0). IfErr c.judge.result (IsRefusalTold Told)) c.judge.ensures.refused

pub judge-requires : goal.judge-requires
judge-requires c = (c.args.files.now, c.in_ok-documents.ensures.inside, c.as_slice.ensures.value ∙ c.in_ok-documents.ensures.documents)
