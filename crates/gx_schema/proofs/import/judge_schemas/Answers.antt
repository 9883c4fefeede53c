use Rattle.std.proofs.Common.{◌∙◌, refl}
use Rattle.gx_schema_restriction.specs.declared.restrictions.Restrictions.TheVariants.{Sound}
use Rattle.gx_schema.specs.Import.{Imported, IsJudged, IsRefusalTold, declares}
use Rattle.gx_schema.specs.SchemaTypes.{schemas_written}
use Rattle.gx_schema.proofs.Refusals.{handed_on, restrictions_judged}
use Rattle.gx_schema.proofs.import.judge_schemas.Goals as goal

pub returns-in_err-judge_restricted-clause-refused : goal.returns-in_err-judge_restricted-clause-refused
returns-in_err-judge_restricted-clause-refused c =
    let documents = c.args.documents.now in
    handed_on c.from_residual-in_err-judge_restricted.result _ (IsRefusalTold (IsJudged documents (declares (schemas_written documents)))) c.from_residual-in_err-judge_restricted.ensures.1
    (restrictions_judged documents c.in_ok-schemas.schemas c.deref.result.now c.in_ok-schemas.ensures
    (c.deref.ensures.value ∙ c.in_ok-restricted.ensures)
    (λ (Told : Imported → Type 0). IsRefusalTold Told c.in_err-judge_restricted.field-0.0) c.in_err-judge_restricted.ensures.refused)

pub returns-clause-declared : goal.returns-clause-declared
returns-clause-declared c =
    restrictions_judged c.args.documents.now c.in_ok-schemas.schemas c.deref.result.now c.in_ok-schemas.ensures
    (c.deref.ensures.value ∙ c.in_ok-restricted.ensures)
    (λ (Told : Imported → Type 0). Told (declares c.in_ok-schemas.schemas)) (Sound, c.in_ok-judge_restricted.ensures.sound, refl)
