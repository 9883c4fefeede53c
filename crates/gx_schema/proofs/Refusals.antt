-- What refusals tell.
use Rattle.std.proofs.Common.{◌≡◌, ◌∙◌, Bool, List, refl, sym, subst}
use Rattle.std.specs.Prelude.{IfErr, IsErrAnd, Result}
use Rattle.std.proofs.lemmas.Result.{err_from_is_err_and}
use Rattle.gx_types.specs.SchemaSet.{SchemaSet}
use Rattle.gx_schema_syntax.specs.DocumentTree.{DocumentTree}
use Rattle.gx_schema.specs.declared.refusal.SchemaRefusal.{SchemaRefusal}
use Rattle.gx_schema.specs.declared.refusal.SchemaRefusal.TheVariants.{Refused, Memory}
use Rattle.gx_schema.specs.Found.{types_found}
use Rattle.gx_schema.specs.Import.{AreRestrictionsTold, Imported, IsJudged, IsRefusalTold, IsRefusalWith, breaks, declares}
use Rattle.gx_schema.specs.RestrictedTypes.{restricted_types}
use Rattle.gx_schema.specs.SchemaTypes.{schemas_written}
use Rattle.gx_schema.specs.SeenComponents.{seen_components}

pub told_as : (one other : Imported) (refusal : SchemaRefusal) → other ≡ one → IsRefusalWith one refusal → IsRefusalWith other refusal
told_as one other (Refused rule file name list) same e = same ∙ e
told_as one other Memory same e = tt

-- a rule that is broken before restrictions are judged is told
pub broken_is_told : (documents : List DocumentTree) (read : Imported) (refusal : SchemaRefusal) → IsRefusalWith read refusal → IsRefusalTold (IsJudged documents read) refusal
broken_is_told documents read (Refused rule file name list) e = subst (λ (r : Imported). IsJudged documents r (breaks rule file name list.items)) (sym e) refl
broken_is_told documents read Memory e = tt

-- what holds of a refusal holds of the result that hands it on
pub handed_on : {T : Type 0} (r : Result T SchemaRefusal) (refusal : SchemaRefusal) (Told : SchemaRefusal → Type 0) → IsErrAnd r (λ y. y ≡ refusal) → Told refusal → IfErr r Told
handed_on {T} r refusal Told on told =
    let p = err_from_is_err_and r on in
    subst (λ (x : Result T SchemaRefusal). IfErr x Told) (sym p.1) (subst Told (sym p.2) told)

-- what is said of the restrictions of documents is judged of them
pub restrictions_judged : (documents : List DocumentTree) (schemas : SchemaSet) (restricted : List Bool) → schemas ≡ schemas_written documents → restricted ≡ restricted_types (seen_components documents).types →
    (Of : (Imported → Type 0) → Type 0) → Of (AreRestrictionsTold (types_found 0 documents) schemas restricted) → Of (IsJudged documents (declares (schemas_written documents)))
restrictions_judged documents schemas restricted same are Of h =
    subst (λ (s : SchemaSet). Of (AreRestrictionsTold (types_found 0 documents) s (restricted_types (seen_components documents).types))) same
    (subst (λ (marks : List Bool). Of (AreRestrictionsTold (types_found 0 documents) schemas marks)) are h)
