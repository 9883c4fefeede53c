use Rattle.std.proofs.Common.{◌≡◌, ◌∙◌, List, ap, subst}
use Rattle.std.specs.Prelude.{IfOk}
use Rattle.gx_base.specs.declared.type_name.TypeName.{TypeName}
use Rattle.gx_types.specs.declared.declaration.Declared.{Declared}
use Rattle.gx_schema_components.specs.DeclaredNames.{type_names_in}
use Rattle.gx_schema_simple.specs.declared.type_form.TypeForm.{TypeForm}
use Rattle.gx_schema.specs.MeaningsView.{meanings_view}
use Rattle.gx_schema.specs.SchemaTypes.{meanings_seen, schema_types, type_forms}
use Rattle.gx_schema.specs.SeenComponents.{seen_components}
use Rattle.gx_schema.proofs.MeaningLemmas.{meanings_are}
use Rattle.gx_schema.proofs.import.types_written.Goals as goal

pub returns : goal.returns
returns c =
    let documents = c.args.documents.now in
    let names = type_names_in documents in
    let forms = type_forms documents in
    let meanings = meanings_seen forms (seen_components documents) in
    let view = meanings_view c.in_ok-tables.tables in
    subst (λ (types : List Declared). IfOk c.schema_types.result (λ made. made.items ≡ types))
    (ap (λ (x : List TypeName). schema_types x c.deref-2.result.now view) (c.deref.ensures.value ∙ c.requires.names)
    ∙ ap (λ (x : List TypeForm). schema_types names x view) (c.deref-2.ensures.value ∙ c.requires.forms)
    ∙ ap (schema_types names forms) (meanings_are view meanings c.in_ok-tables.ensures))
    c.schema_types.ensures
